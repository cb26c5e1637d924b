-- Any two answers that a promise allows are equal: at once where it is an equation, and by proof where it is a relation.
use mathlib.Core.Path.{◌≡◌, sym, ap, ◌∙◌}
use mathlib.Core.Logic.{◌⊎◌, inl, inr}
use mathlib.Core.List.{List}
use Prim.Native.Nat.{ℕ, ◌+◌, ◌-◌}
use native.Mathlib.Omega.{arith}
use native.Mathlib.Decide.{dec_lt}
use lib.ListN.{length, get_or, drop}
use lib.Seq.{ext_get_or, get_or-drop}
use Rattle.refusals.specs.declared.Refusal.{Refusal}
use Rattle.refusals.specs.Ruling.{Test, Ruling, passed, refused, first_of}
use Rattle.gdl.specs.Game.{Game}
use Rattle.gdl.specs.Reach.{Hidden}
use Rattle.rules.specs.Verdict.{Verdict, unfit, fit}
use Rattle.rules.proofs.Determined.{judged_determined}
use Rattle.calls.specs.declared.Looked.{Looked}
use Rattle.calls.specs.Answer.{settle, answer}
use Rattle.calls.specs.Calls.{model_tests, hidden_tests, check}
use Rattle.calls.specs.Promises.{Flag, CheckPromise, ModelWritten, ModelPromise, HiddenSaid, HiddenPromise}

pub by_equation : {W : Type 0} {f a b : W} → a ≡ f → b ≡ f → a ≡ b
by_equation p q = p ∙ sym q

pub check_determined : (s : List ℕ) (r q : Refusal) → CheckPromise s r → CheckPromise s q → r ≡ q
check_determined s r q a b = a.answers ∙ (ap check (judged_determined s a.verdict b.verdict a.judged b.judged) ∙ sym b.answers)

-- ---- a flag is determined, whatever it stands for

flag_determined : (P : Type 0) (x y : ℕ) → Flag P x → Flag P y → x ≡ y
flag_determined P x y a b = go a.bit b.bit
  where
    go : (x ≡ 0) ⊎ (x ≡ 1) → (y ≡ 0) ⊎ (y ≡ 1) → x ≡ y
    go (inl p) (inl q) = p ∙ sym q
    go (inl p) (inr q) = a.one.1 (b.one.0 q) ∙ sym q
    go (inr p) (inl q) = p ∙ sym (b.one.1 (a.one.0 p))
    go (inr p) (inr q) = p ∙ sym q

-- a promise that is an equation on every refusal, and determined where the work is done
determined_by : {W : Type 0} (v : Verdict) (tests : Game → List Test) (refusal : Refusal → W) (Work : Game → W → Type 0)
    → ((G : Game) (a b : W) → Work G a → Work G b → a ≡ b)
    → (a b : W) → answer v tests (λ r x. x ≡ refusal r) Work a → answer v tests (λ r x. x ≡ refusal r) Work b → a ≡ b
determined_by (unfit r) tests refusal Work f a b p q = by_equation p q
determined_by {W = W} (fit G) tests refusal Work f a b p q = go (first_of (tests G)) p q
  where
    go : (u : Ruling) → settle u (λ r (x : W). x ≡ refusal r) (Work G) a → settle u (λ r (x : W). x ≡ refusal r) (Work G) b → a ≡ b
    go passed p q = f G a b p q
    go (refused r) p q = by_equation p q

-- an answer is its parts
looked_same : (r r' : Refusal) (h h' : ℕ) → r ≡ r' → h ≡ h' → ◌≡◌ {A = Looked} (record { refusal = r; hidden = h }) (record { refusal = r'; hidden = h' })
looked_same r r' h h' a b = cc

pair_same : (r r' : Refusal) (h h' : List ℕ) → r ≡ r' → h ≡ h' → ◌≡◌ {A = Refusal × List ℕ} (r, h) (r', h')
pair_same r r' h h' a b = cc

pub hidden_determined : (v : Verdict) (asking moving m : ℕ) (a b : Looked) → HiddenPromise v asking moving m a → HiddenPromise v asking moving m b → a ≡ b
hidden_determined v asking moving m = determined_by v (hidden_tests asking moving m) (λ r. record { refusal = r; hidden = 0 }) (λ G a. HiddenSaid G asking moving m a)
    (λ G a b p q. looked_same a.refusal b.refusal a.hidden b.hidden (by_equation p.refusal q.refusal)
    (flag_determined (Hidden G asking moving m) a.hidden b.hidden p.hidden q.hidden))

pub model_determined : (v : Verdict) (pos ch room : List ℕ) (a b : Refusal × List ℕ) → ModelPromise v pos ch room a → ModelPromise v pos ch room b → a ≡ b
model_determined v pos ch room = determined_by v (model_tests pos ch (length room)) (λ r. (r, room)) (λ G a. ModelWritten G pos ch room a)
    (λ G a b p q. pair_same a.0 b.0 a.1 b.1 (by_equation p.refusal q.refusal) (rooms G a b p q))
  where
    rooms : (G : Game) (a b : Refusal × List ℕ) → ModelWritten G pos ch room a → ModelWritten G pos ch room b → a.1 ≡ b.1
    rooms G a b p q = ext_get_or 0 a.1 b.1 (by_equation p.size q.size) (λ i lt. elim (dec_lt i (length G.atoms)) [
      | yes small ↦ flag_determined _ (get_or a.1 i 0) (get_or b.1 i 0) (p.flags i small) (q.flags i small)
      | no big ↦
          let A : ℕ = length G.atoms in
          let k : A + (i - A) ≡ i = omega arith in
          let e : drop A a.1 ≡ drop A b.1 = by_equation p.later q.later in
          let f : get_or a.1 (A + (i - A)) 0 ≡ get_or b.1 (A + (i - A)) 0 = sym (get_or-drop A a.1 (i - A) 0) ∙ (ap (λ (x : List ℕ). get_or x (i - A) 0) e ∙ get_or-drop A b.1 (i - A) 0) in
          rw k at f
    ])
