-- The computed reach of a valid game is the reach, and the computed answer on a move is whether it is hidden.
use mathlib.Core.Path.{◌≡◌, sym, subst}
use mathlib.Core.Logic.{◌↔◌}
use mathlib.Core.List.{List, map, Memᴰ}
use Prim.Native.Nat.{ℕ, ◌<◌}
use lib.Dec.{T, ltb, ltb→lt, lt→ltb, T_not, not_T}
use lib.ListN.{length, length-map}
use Rattle.gdl.specs.Game.{Game, does_kind, is_atom, atom_at}
use Rattle.gdl.specs.Sets.{Atoms, ◌⊆◌, Closed}
use Rattle.gdl.specs.Reach.{is_seed, Reaches, Reach, Hidden}
use Rattle.gdl.specs.Valid.{Valid}
use Rattle.gdl.specs.Flags.{on, bit}
use Rattle.gdl.specs.Computed.{Link, link_to, link_test, reach_of, any_of, hidden}
use Rattle.gdl.proofs.Tests.{and_both, and_elim, same}
use Rattle.gdl.proofs.Closing.{close_length, close_closed, close_ind}
use Rattle.gdl.proofs.Reading.{any_make, any_find, flags_on}
use Rattle.gdl.proofs.Linking.{links, arrow, Leads, to_body, to_next, leads_linked, links_lead}

link_mono : (X Y : Atoms) → X ⊆ Y → (k : Link) → T (link_test X k) → T (link_test Y k)
link_mono X Y f k t = f k.from t

module _ (G : Game) (v : Valid G) (z : ℕ) where
  abbrev seed_flags : List ℕ
  seed_flags = map (λ a. bit (is_seed z a)) G.atoms

  fit : (k : Link) → Memᴰ k (links G) → k.to < length G.atoms
  fit k m = go (links_lead G k m)
    where
      go : {p q : ℕ} → Leads G p q → q < length G.atoms
      go (to_body c m x k) = v.bodies c m x k
      go (to_next f pl ql t u) = ql

  pub reach_length : length (reach_of G z) ≡ length G.atoms
  unfolding reach_of
  reach_length = close_length link_to link_test link_mono (length G.atoms) (links G) fit seed_flags (length-map G.atoms _)

  closed : Closed link_to link_test (links G) (on seed_flags) (on (reach_of G z))
  unfolding reach_of
  closed = close_closed link_to link_test link_mono (length G.atoms) (links G) fit seed_flags (length-map G.atoms _)

  reach_reaches : Reaches G z (on (reach_of G z))
  reach_reaches = record {
    seeds = λ p lt t. closed.holds p (subst T (sym (flags_on (is_seed z) _ G.atoms p))
        (and_both (ltb p (length G.atoms)) (is_seed z (atom_at G p)) (lt→ltb p (length G.atoms) lt) t));
    shut = record { body = λ c m r x k. step (to_body c m x k) r };
    onward = λ f p q pl ql t u r. step (to_next f pl ql t u) r;
  }
    where
      step : {p q : ℕ} → Leads G p q → T (on (reach_of G z) p) → T (on (reach_of G z) q)
      step {p} {q} l r = closed.fires (arrow p q) (leads_linked G l) r

  reach_least : (Y : Atoms) → Reaches G z Y → on (reach_of G z) ⊆ Y
  unfolding reach_of
  reach_least Y y = close_ind link_to link_test link_mono (length G.atoms) (links G) fit seed_flags (length-map G.atoms _) (λ p. T (Y p))
      (λ p t. and_elim (ltb p (length G.atoms)) (is_seed z (atom_at G p)) (λ lt s. y.seeds p (ltb→lt p (length G.atoms) lt) s)
      (subst T (flags_on (is_seed z) _ G.atoms p) t))
      (λ X h k m t. step (links_lead G k m) (h k.from t))
    where
      step : {p q : ℕ} → Leads G p q → T (Y p) → T (Y q)
      step (to_body c m x k) r = y.shut.body c m r x k
      step {p} {q} (to_next f pl ql t u) r = y.onward f p q pl ql t u r

  pub reach_is : Reach G z (on (reach_of G z))
  reach_is = record { reaches = reach_reaches; least = reach_least }

  pub reach_only : (X : Atoms) → Reach G z X → (p : ℕ) → X p ≡ on (reach_of G z) p
  reach_only X x p = same (X p) (on (reach_of G z) p) (x.least (on (reach_of G z)) reach_reaches p) (reach_least X x.reaches p)

  pub hidden_means : (s m : ℕ) → T (hidden G z s m) ↔ Hidden G z s m
  unfolding hidden
  hidden_means s m = (
    λ h. record {
      outside = λ X x p lt named r. T_not (any_of (is_atom does_kind s m) G.atoms (on (reach_of G z))) h
          (any_make (is_atom does_kind s m) _ G.atoms (on (reach_of G z)) p lt named (subst T (reach_only X x p) r));
    },
    λ h. not_T (any_of (is_atom does_kind s m) G.atoms (on (reach_of G z))) (λ t.
        let r = any_find (is_atom does_kind s m) _ G.atoms (on (reach_of G z)) t in
        h.outside (on (reach_of G z)) reach_is r.0 r.1 r.2 r.3),
  )
