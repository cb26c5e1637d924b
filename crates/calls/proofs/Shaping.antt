-- Open, offer and play hand back well-shaped records, where the record that they were given is.
use mathlib.Core.Path.{◌≡◌}
use mathlib.Core.Bool.{cond}
use mathlib.Core.List.{[]}
use Prim.Native.Nat.{ℕ, suc, ◌+◌, ◌/◌, ◌%◌, ◌<◌}
use native.Mathlib.Omega.{arith}
use lib.Dec.{ltb, le→leb, leb-zero}
use borrow.Author.Tests.{lt-ltb}
use Rattle.gdl.specs.Game.{Game, init_kind, next_kind, sees_kind}
use Rattle.gdl.specs.Flags.{on, bit}
use Rattle.session.specs.Shape.{fluent_fits, percept_fits, flag_fits, choice_fits, position_shaped, choices_shaped, percepts_shaped}
use Rattle.session.specs.declared.Session.{Session}
use Rattle.gdl.proofs.Walks.{blank_fits, every_set}
use Rattle.session.proofs.Fitting.{flags_fit}
use Rattle.session.proofs.Shapes.{Shaped}
use Rattle.calls.specs.Position.{atom_in, still, moved, opened, stored, played}

module _ (G : Game) where
  pub opened_shaped : Shaped G (opened G)
  unfolding opened position_shaped choices_shaped percepts_shaped
  opened_shaped = record {
    round = omega arith;
    position = flags_fit (fluent_fits G) (λ f. atom_in G (on (still G [])) init_kind f 0) 512;
    choices = blank_fits (choice_fits G) (λ s. rw (leb-zero (cond (ltb s G.seats) G.moves 0)) tt) 8;
    percepts = blank_fits (flag_fits (percept_fits G)) (λ i. rw (leb-zero (bit (percept_fits G i))) tt) 2048;
  }

  pub stored_shaped : (σ : Session) (s m : ℕ) → Shaped G σ → s < G.seats → m < G.moves → Shaped G (stored σ s m)
  unfolding stored choices_shaped
  stored_shaped σ s m h a b = record {
    round = h.round;
    position = h.position;
    choices = every_set (choice_fits G) 0 σ.choices s (suc m) h.choices
        (let e : 0 + s ≡ s = omega arith in rw (e, lt-ltb s G.seats a) (le→leb (suc m) G.moves b));
    percepts = h.percepts;
  }

  pub played_shaped : (σ : Session) → Shaped G σ → σ.round < 65535 → Shaped G (played G σ)
  unfolding played position_shaped choices_shaped percepts_shaped
  played_shaped σ h a = record {
    round = a;
    position = flags_fit (fluent_fits G) (λ f. atom_in G (on (moved G σ.position σ.choices)) next_kind f 0) 512;
    choices = blank_fits (choice_fits G) (λ s. rw (leb-zero (cond (ltb s G.seats) G.moves 0)) tt) 8;
    percepts = flags_fit (percept_fits G) (λ i. atom_in G (on (moved G σ.position σ.choices)) sees_kind (i / 256) (i % 256)) 2048;
  }
