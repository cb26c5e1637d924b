-- Laws of consulting a table: from what was read and judged to the verdict, and from the model's flags to the computed model.
use mathlib.Core.Path.{◌≡◌, refl, sym, ap, ◌∙◌}
use mathlib.Core.Logic.{◌⊎◌, inl, inr}
use mathlib.Core.List.{List, [], ◌∷◌, ◌++◌}
use Prim.Native.Nat.{ℕ, zero, suc, ◌-◌, ◌≤◌}
use native.Mathlib.Omega.{arith}
use lib.Dec.{eqb}
use lib.ListN.{length, get_or, take, length-append, length-replicate}
use Rattle.refusals.specs.declared.Refusal.{Refusal}
use Rattle.gdl.specs.Game.{Game}
use Rattle.gdl.specs.Flags.{on, blank}
use Rattle.gdl.specs.Valid.{Valid}
use Rattle.gdl.specs.Computed.{model, reach_of}
use Rattle.gdl.proofs.Bits.{Bits, model_bits, bits_same}
use Rattle.gdl.proofs.Modelled.{model_is, model_length}
use Rattle.gdl.proofs.Walks.{zeros}
use Rattle.table.specs.Parse.{Parse, ok, fault}
use Rattle.table.specs.Table.{table}
use Rattle.table.specs.Says.{header_of, WroteTable, blank_arrays}
use Rattle.table.specs.declared.tables.Arrays.{Arrays}
use Rattle.table.specs.declared.tables.Read.{Read}
use Rattle.gdl.specs.declared.arrays.AtomArrays.{AtomArrays}
use Rattle.gdl.specs.declared.arrays.ClauseArrays.{ClauseArrays}
use Rattle.gdl.specs.Layout as T
use Rattle.std.specs.Prelude.{Result, Ok, Err}
use Rattle.rules.specs.Rules.{Ruled}
use Rattle.rules.specs.Verdict.{unfit, fit}
use Rattle.rules.specs.Judged.{judge}
use Rattle.rules.proofs.Reading.{read_limits}
use Rattle.rules.proofs.Judging.{fault_judge, read_judge}
use Rattle.rules.proofs.Accepting.{accepted}
use Rattle.judge.specs.Judgement as J
use Rattle.reach.specs.Promise as R
use Rattle.reach.specs.Promise.{Reached}
use Rattle.reach.proofs.Determined.{reached_is}
use Rattle.truth.specs.Promise.{Modelled}
use Rattle.truth.proofs.Modelled.{modelled_any}
use Rattle.verdict.specs.Laid.{Laid, AtomsUsed, ClausesUsed}
use Rattle.verdict.specs.Consulted.{found, Accepts}
use Rattle.verdict.specs.Weighed.{Fits}
use Rattle.verdict.specs.declared.Weighed.{Weighed}
use Rattle.verdict.proofs.Laying.{held_judge, held_model, held_trace}

-- ---- flags of the model

small_bits : (l : List ℕ) → ((p : ℕ) → get_or l p 0 ≤ 1) → Bits l
small_bits [] h = tt
small_bits (x ∷ l) h = (one x (h 0), small_bits l (λ p. h (suc p)))
  where
    one : (x : ℕ) → x ≤ 1 → (x ≡ 0) ⊎ (x ≡ 1)
    one zero le = inl refl
    one (suc n) le = inr (omega arith)

more_blank : (l : List ℕ) (n : ℕ) → Bits l → Bits (l ++ blank n)
more_blank [] zero b = tt
more_blank [] (suc n) b = (inl refl, more_blank [] n b)
more_blank (x ∷ l) n b = (b.0, more_blank l n b.1)

pub on_blank : (l : List ℕ) (n p : ℕ) → on l p ≡ on (l ++ blank n) p
on_blank [] n p = ap (λ (x : ℕ). eqb x 1) (sym (zeros n p))
on_blank (x ∷ l) n zero = refl
on_blank (x ∷ l) n (suc p) = on_blank l n p

pub model_flags : (G : Game) → Valid G → length G.atoms ≤ 1024 → (pos ch X : List ℕ) → Modelled G pos ch X → X ≡ model G pos ch ++ blank (1024 - length G.atoms)
model_flags G v few pos ch X m =
    let M : List ℕ = model G pos ch in
    let n : ℕ = 1024 - length G.atoms in
    bits_same X (M ++ blank n) (small_bits X m.flagged.bits) (more_blank M n (model_bits G pos ch))
    (m.flagged.long ∙ sym (length-append M (blank n) ∙ omega (arith, model_length G v pos ch, length-replicate {A = ℕ} n 0)))
    (λ p. modelled_any m (on M) (model_is G v pos ch) p ∙ on_blank M n p)

-- ---- a table that was read and judged

-- a table that was read into blank arrays
pub record Got (s : List ℕ) (r : Read) (a : Arrays) : Type 0 where
  pub game : Game
  pub end : ℕ
  pub read : table s 0 ≡ ok game end
  pub laid : Laid r a game

module _ (s : List ℕ) (before after : Arrays) where
  pub unread : (f : Refusal) → WroteTable (table s 0) (Err f) before after → judge s ≡ unfit f
  unread f w = go (table s 0) refl w
    where
      go : (p : Parse Game) → table s 0 ≡ p → WroteTable p (Err f) before after → judge s ≡ unfit f
      go (ok G n) q w = let z : ◌≡◌ {A = ℕ} 0 1 = cc w.answer_is in absurd (omega arith)
      go (fault g) q w = let k : g ≡ f = cc in sym (fault_judge s f (q ∙ ap fault k))

  pub was_read : before ≡ blank_arrays → (r : Read) → WroteTable (table s 0) (Ok r) before after → Got s r after
  was_read b r w = go (table s 0) refl w
    where
      go : (p : Parse Game) → table s 0 ≡ p → WroteTable p (Ok r) before after → Got s r after
      go (ok G n) q w =
          let k : r ≡ record { header = header_of G; clauses = length G.clauses } = cc w.answer_is in
          record {
            game = G;
            end = n;
            read = q;
            laid = record {
              limits = read_limits s G n q;
              header_is = ap (λ (x : Read). x.header) k;
              clauses_are = ap (λ (x : Read). x.clauses) k;
              kinds_are = rw b at w.atoms.kinds_are;
              firsts_are = rw b at w.atoms.firsts_are;
              seconds_are = rw b at w.atoms.seconds_are;
              heads_are = rw b at w.clauses.heads_are;
              starts_are = rw b at w.clauses.starts_are;
              literals_are = rw b at w.clauses.literals_are;
              owners_are = rw b at w.clauses.owners_are;
            };
          }
      go (fault g) q w = let z : ◌≡◌ {A = ℕ} 0 1 = cc in absurd (omega arith)

module _ {s : List ℕ} {r : Read} {a : Arrays} (g : Got s r a) {x : AtomArrays} {y : ClauseArrays} (ux : AtomsUsed r.header.sizes.atoms a.atoms x) (uy : ClausesUsed r.clauses a.clauses y)
    {owners : List ℕ} {seats : ℕ} (eo : owners ≡ take (length y.literals.now) a.clauses.owners) (es : seats ≡ r.header.players.seats) where
  held : J.Held x y owners seats g.game
  held = held_judge g.laid ux uy owners seats eo es

  pub judgeable : J.HoldsGame x y owners seats
  judgeable = record { game = g.game; held = held }

  module _ {j : Result ℕ Refusal} {v : List ℕ} (w : J.Judges (J.Held x y owners seats) Ruled j v) where
    pub broken : (f : Refusal) → j ≡ Err f → judge s ≡ unfit f
    broken f e = sym (read_judge s g.game g.end (unfit f) g.read (rw e at (w.ruled g.game held)))

    pub kept : (top : ℕ) → j ≡ Ok top → Fits (judge s) (record { read = r; top = top }) a v
    kept top e =
        let ruled : Ruled g.game (fit g.game) = rw e at (w.ruled g.game held) in
        record {
          game = g.game;
          verdict = sym (read_judge s g.game g.end (fit g.game) g.read ruled);
          laid = g.laid;
          ruled = ruled;
          levelled = rw e at (w.leaves g.game held);
        }

-- ---- what was found in an accepted table

module _ (s : List ℕ) {w : Weighed} {a : Arrays} {levels : List ℕ} (f : Fits (judge s) w a levels) where
  accepts : (flags_of : Game → List ℕ) (X : List ℕ) → X ≡ flags_of f.game ++ blank (1024 - length f.game.atoms)
      → Accepts (judge s) flags_of (found (record { header = w.read.header; atoms = a.atoms; flags = X }))
  accepts flags_of X e = record {
    game = f.game;
    verdict = f.verdict;
    is = cc (e, f.laid.header_is, f.laid.kinds_are, f.laid.firsts_are, f.laid.seconds_are);
  }

  module _ {x : AtomArrays} {y : ClauseArrays} (ux : AtomsUsed w.read.header.sizes.atoms a.atoms x) (uy : ClausesUsed w.read.clauses a.clauses y) where
    pub fit_consulted : (pos ch X : List ℕ)
        → ((G : Game) → T.Held G x.kinds.now x.firsts.now x.seconds.now y.heads.now y.starts.now y.literals.now → Modelled G pos ch X)
        → Accepts (judge s) (λ G. model G pos ch) (found (record { header = w.read.header; atoms = a.atoms; flags = X }))
    fit_consulted pos ch X m = accepts (λ G. model G pos ch) X (model_flags f.game (accepted s f.game f.verdict).valid f.laid.limits.atoms pos ch X (m f.game (held_model f.laid ux uy)))

    pub fit_traced : (z : ℕ) (X : List ℕ) → ((G : Game) → R.Laid G x y → Reached G z X)
        → Accepts (judge s) (λ G. reach_of G z) (found (record { header = w.read.header; atoms = a.atoms; flags = X }))
    fit_traced z X m = accepts (λ G. reach_of G z) X (reached_is (accepted s f.game f.verdict).valid (m f.game (held_trace f.laid ux uy)) f.laid.limits.atoms)
