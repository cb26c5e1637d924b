-- Two valid games with the same clauses have the same model in every position and the same hidden moves, so every call answers the same.
use mathlib.Core.Path.{◌≡◌, refl, ap}
use mathlib.Core.Bool.{Bool, not}
use mathlib.Core.List.{List, []}
use Prim.Native.Nat.{ℕ, ◌-◌}
use lib.ListN.{get_or}
use Rattle.refusals.specs.Ruling.{lowest}
use Rattle.gdl.specs.Game.{Clause, Game, legal_kind, terminal_kind, goal_kind}
use Rattle.gdl.specs.Valid.{Valid}
use Rattle.gdl.specs.Flags.{on}
use Rattle.gdl.specs.Computed.{did, model, hidden}
use Rattle.gdl.specs.Lists.{those}
use Rattle.gdl.proofs.Tests.{same}
use Rattle.gdl.proofs.Bits.{model_bits}
use Rattle.gdl.proofs.Modelled.{model_length, model_is, flags_are}
use Rattle.gdl.proofs.Reaching.{hidden_means}
use Rattle.rules.specs.Verdict.{fit}
use Rattle.session.specs.Shape.{position_shaped, choices_shaped, percepts_shaped, shaped}
use Rattle.session.specs.declared.Session.{Session}
use Rattle.calls.specs.Position.{atom_in, still, moved, over, legal, goal, opened, played}
use Rattle.calls.specs.Message.{legal_of, goals_of, message_numbers, message_bytes}
use Rattle.calls.specs.Calls.{illegal, check, open_game, offer, play, truth, message, hidden_from, offer_tests, play_tests, message_tests, model_tests, hidden_tests}
use Rattle.calls.specs.Same.{SameAnswers}
use Rattle.reordering.specs.Reordered.{SameClauses, with_clauses}
use Rattle.reordering.proofs.Swapping.{same_back, model_same, hidden_same}

module _ (G : Game) (D : List Clause) (h : SameClauses G.clauses D) (v : Valid G) (w : Valid (with_clauses D G)) where
  abbrev H : Game
  H = with_clauses D G

  -- "models .. are equal"
  models_equal : (pos ch : List ℕ) → model G pos ch ≡ model H pos ch
  models_equal pos ch = flags_are H w pos ch (model G pos ch) (model_bits G pos ch) (model_length G v pos ch) (model_same h G (on pos) (did ch) (model_is G v pos ch))

  -- ".. hidden moves .. are equal"
  hidden_equal : (z s m : ℕ) → hidden G z s m ≡ hidden H z s m
  hidden_equal z s m = same (hidden G z s m) (hidden H z s m)
      (λ t. (hidden_means H w z s m).1 (hidden_same h G ((hidden_means G v z s m).0 t)))
      (λ t. (hidden_means G v z s m).1 (hidden_same (same_back h) G ((hidden_means H w z s m).0 t)))

  -- ---- what is read from the models

  still_equal : (pos : List ℕ) → still G pos ≡ still H pos
  unfolding still
  still_equal pos = models_equal pos []

  read_equal : (pos : List ℕ) (k x y : ℕ) → atom_in G (on (still G pos)) k x y ≡ atom_in H (on (still H pos)) k x y
  read_equal pos k x y = ap (λ (M : List ℕ). atom_in G (on M) k x y) (still_equal pos)

  over_equal : (pos : List ℕ) → over G pos ≡ over H pos
  unfolding over
  over_equal pos = read_equal pos terminal_kind 0 0

  legal_equal : (pos : List ℕ) → legal G pos ≡ legal H pos
  unfolding legal
  legal_equal pos = λ i s m. read_equal pos legal_kind s m i

  goal_equal : (pos : List ℕ) → goal G pos ≡ goal H pos
  unfolding goal
  goal_equal pos = λ i s x. read_equal pos goal_kind s x i

  opened_equal : opened G ≡ opened H
  unfolding opened
  opened_equal = rw (still_equal []) refl

  played_equal : (σ : Session) → played G σ ≡ played H σ
  unfolding played moved
  played_equal σ = rw (models_equal σ.position σ.choices) refl

  message_equal : (σ : Session) (z : ℕ) → message_bytes G σ z ≡ message_bytes H σ z
  unfolding message_bytes message_numbers
  message_equal σ z =
      let end : over G σ.position ≡ over H σ.position = over_equal σ.position in
      let ls : legal_of G σ z ≡ legal_of H σ z = ap (λ (f : ℕ → ℕ → Bool). those G.moves (f z)) (legal_equal σ.position) in
      let gs : goals_of G σ z ≡ goals_of H σ z = ap (λ (f : ℕ → ℕ → Bool). those 101 (f z)) (goal_equal σ.position) in
      cc (end, ls, gs)

  -- the lowest seat whose choice is not legal
  illegal_equal : (σ : Session) → lowest (illegal G σ) 0 G.seats ≡ lowest (illegal H σ) 0 G.seats
  illegal_equal σ = ap (λ (f : ℕ → ℕ → Bool). lowest (λ s. not (f s (get_or σ.choices s 0 - 1))) 0 G.seats) (legal_equal σ.position)

  pub answers_equal : SameAnswers (fit G) (fit H)
  unfolding check open_game offer play truth message hidden_from offer_tests play_tests message_tests model_tests hidden_tests position_shaped choices_shaped percepts_shaped shaped moved
  answers_equal = record {
    of_check = refl;
    of_open = rw opened_equal refl;
    of_offer = λ σ s m. rw (over_equal σ.position, ap (λ (f : ℕ → ℕ → Bool). f s m) (legal_equal σ.position)) refl;
    of_play = λ σ. rw (over_equal σ.position, illegal_equal σ, played_equal σ) refl;
    of_model = λ pos ch room. rw (models_equal pos ch) refl;
    of_message = λ σ z room. rw (message_equal σ z) refl;
    of_hidden = λ asking moving m. rw (hidden_equal asking moving m) refl;
  }
