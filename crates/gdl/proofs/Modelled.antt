-- The computed model of a valid game is its one standard model, and reading it is entailment.
use mathlib.Core.Path.{◌≡◌, refl, sym, subst, ◌∙◌}
use mathlib.Core.Logic.{◌↔◌}
use mathlib.Core.List.{List, Memᴰ}
use Prim.Native.Nat.{ℕ, zero, suc, ◌<◌}
use native.Mathlib.Nat.{le_of_suc-le-suc, not-suc-le-zero}
use native.Mathlib.Omega.{arith}
use lib.Dec.{T}
use lib.ListN.{length, length-map}
use Rattle.gdl.specs.Game.{pos, neg, Clause, Game, is_atom}
use Rattle.gdl.specs.Sets.{Atoms}
use Rattle.gdl.specs.Standard.{Levels, Standard}
use Rattle.gdl.specs.Graph.{itself}
use Rattle.gdl.specs.Truth.{State, Joint, is_fact, facts_of, Model, Entails}
use Rattle.gdl.specs.Valid.{Valid}
use Rattle.gdl.specs.Flags.{on}
use Rattle.gdl.specs.Computed.{level_of, did, facts, tabulate, look, levels_of, model, any_of}
use Rattle.gdl.proofs.Stable.{any_numbering}
use Rattle.gdl.proofs.Modelling.{run_length, run_standard}
use Rattle.gdl.proofs.Levelling.{levels_exist}
use Rattle.gdl.proofs.Reading.{any_make, any_find, flags_on}
use Rattle.gdl.proofs.Bits.{Bits, bits_same, model_bits}

tabulate_at : (f : ℕ → ℕ) (n p : ℕ) → p < n → look (tabulate f n) p ≡ f p
tabulate_at f zero p h = absurd (not-suc-le-zero h)
tabulate_at f (suc n) zero h = refl
tabulate_at f (suc n) (suc p) h = tabulate_at (λ k. f (suc k)) n p (le_of_suc-le-suc h)

module _ (G : Game) (v : Valid G) where
  -- ---- the computed levels are an allowed numbering, none above the count of atoms

  level_at : (p : ℕ) → p < length G.atoms → look (levels_of G) p ≡ level_of itself G.clauses (length G.atoms) p
  unfolding level_of
  level_at = tabulate_at (level_of itself G.clauses (length G.atoms)) (length G.atoms)

  allowed : Levels G.clauses (look (levels_of G))
  allowed = record {
    up = λ c m q k. rw (level_at q (v.bodies c m (pos q) k), level_at c.head (v.heads c m)) (exist.up c m q k);
    over = λ c m q k. rw (level_at q (v.bodies c m (neg q) k), level_at c.head (v.heads c m)) (exist.over c m q k);
  }
    where
      exist : Levels G.clauses (level_of itself G.clauses (length G.atoms))
      exist = levels_exist itself (length G.atoms) G.clauses v.heads v.bodies v.levels

  low : (c : Clause) → Memᴰ c G.clauses → look (levels_of G) c.head < suc (length G.atoms)
  unfolding level_of
  low c m = rw (level_at c.head (v.heads c m)) (omega arith)

  -- ---- the model of a position and a joint choice

  module _ (pos ch : List ℕ) where
    pub facts_same : (p : ℕ) → on (facts G pos ch) p ≡ facts_of G (on pos) (did ch) p
    unfolding facts
    facts_same = flags_on (is_fact (on pos) (did ch)) _ G.atoms

    facts_length : length (facts G pos ch) ≡ length G.atoms
    unfolding facts
    facts_length = length-map G.atoms _

    pub model_length : length (model G pos ch) ≡ length G.atoms
    unfolding model
    model_length = run_length (length G.atoms) G.clauses v.heads (look (levels_of G)) (facts G pos ch) facts_length (suc (length G.atoms))

    pub model_is : Model G (on pos) (did ch) (on (model G pos ch))
    unfolding model
    model_is = record {
      numbering = look (levels_of G);
      allowed = allowed;
      standard = subst (λ (F : Atoms). Standard G.clauses (look (levels_of G)) F (on (model G pos ch))) (λ i p. facts_same p i)
          (run_standard (length G.atoms) G.clauses v.heads (look (levels_of G)) (facts G pos ch) facts_length (suc (length G.atoms)) low);
    }

    pub model_only : (X : Atoms) → Model G (on pos) (did ch) X → (p : ℕ) → X p ≡ on (model G pos ch) p
    model_only X m = any_numbering G.clauses m.numbering model_is.numbering m.allowed model_is.allowed (facts_of G (on pos) (did ch)) X (on (model G pos ch)) m.standard model_is.standard

    pub flags_are : (X : List ℕ) → Bits X → length X ≡ length G.atoms → Model G (on pos) (did ch) (on X) → X ≡ model G pos ch
    flags_are X b e m = bits_same X (model G pos ch) b (model_bits G pos ch) (e ∙ sym model_length) (model_only (on X) m)

    read : (k x y : ℕ) → T (any_of (is_atom k x y) G.atoms (on (model G pos ch))) ↔ Entails G (on pos) (did ch) k x y
    read k x y = (
      λ h. let r = any_find (is_atom k x y) _ G.atoms (on (model G pos ch)) h in
          record { atom = r.0; in_table = r.1; named = r.2; holds = λ X m. subst T (sym (model_only X m r.0)) r.3 },
      λ e. any_make (is_atom k x y) _ G.atoms (on (model G pos ch)) e.atom e.in_table e.named (e.holds (on (model G pos ch)) model_is),
    )

    pub reads : (S : State) (A : Joint) → ((f : ℕ) → on pos f ≡ S f) → ((s m : ℕ) → did ch s m ≡ A s m)
        → (k x y : ℕ) → T (any_of (is_atom k x y) G.atoms (on (model G pos ch))) ↔ Entails G S A k x y
    reads S A same-S same_A k x y = subst (λ (B : Joint). T (any_of (is_atom k x y) G.atoms (on (model G pos ch))) ↔ Entails G S B k x y) (λ i s m. same_A s m i)
        (subst (λ (P : State). T (any_of (is_atom k x y) G.atoms (on (model G pos ch))) ↔ Entails G P (did ch) k x y) (λ i f. same-S f i) (read k x y))
