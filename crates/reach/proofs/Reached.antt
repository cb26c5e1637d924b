-- The promise of the reach: the closure from the seeds of a game keeps it, for every game that the arrays hold.
use mathlib.Core.Path.{◌≡◌, refl, sym, subst}
use mathlib.Core.Bool.{Bool, true, false}
use mathlib.Core.List.{List}
use Prim.Native.Nat.{ℕ, ◌<◌, ◌≤◌}
use native.Mathlib.Omega.{arith}
use native.Mathlib.Decide.{dec_lt}
use lib.Dec.{T, eqb, eqb→eq, ltb, ltb→lt, lt→ltb}
use lib.ListN.{length, get_or}
use Rattle.gdl.specs.Game.{Game, atom_of, atom_at}
use Rattle.gdl.specs.Sets.{Atoms}
use Rattle.gdl.specs.Reach.{is_seed, Reaches}
use Rattle.gdl.specs.Flags.{on, bit}
use Rattle.gdl.proofs.Tests.{eq→eqb}
use Rattle.gdl.proofs.Linking.{Leads, to_body, to_next}
use Rattle.gdl.specs.declared.arrays.AtomArrays.{AtomArrays}
use Rattle.gdl.specs.declared.arrays.ClauseArrays.{ClauseArrays}
use Rattle.edges.specs.Closure.{Shut, Closes}
use Rattle.edges.specs.Queue.{no_marks}
use Rattle.edges.specs.Marks.{Brought, Visited}
use Rattle.edges.specs.declared.worklist.Worklist.{Worklist}
use Rattle.edges.proofs.Marking.{joined_more, joined_as}
use Rattle.edges.proofs.Closing.{turn_place, turn_done, Closing}
use Rattle.reach.specs.Promise.{Laid, Ready, Reached}
use Rattle.reach.specs.Seeds.{Unsown, Sown}
use Rattle.reach.specs.Bodies as B
use Rattle.reach.specs.Onward as O
use Rattle.reach.specs.Steps.{by_body, by_fluent, Brings, Readable, Indexed, Visit, Following}
use Rattle.reach.specs.declared.steps.Steps.{Steps}
use Rattle.reach.proofs.Laying.{laid_long, laid_kind, laid_first, leads_brings, brings_leads, ready_columns, ready_readable}

-- ---- the turn of an atom

module _ (a : AtomArrays) (c : ClauseArrays) (w : Worklist) (at : ℕ) (v : Visit a c w at) where
  pub visit_place : at < 1024
  visit_place = turn_place (Brings a c) w at v.turn

  module _ (p : ℕ) (ep : p ≡ get_or w.queue at 0) where
    module _ (w' : Worklist) (o : Brought (O.Follows a p) w w') where
      pub visit_done : (w'' : Worklist) → Brought (B.InBodies c p) w' w'' → Visited (Brings a c) w at w''
      visit_done w'' b = turn_done (Brings a c) w at v.turn p ep w'' (record {
        joined = joined_more (joined_as (λ h x. by_fluent x) o.joined) (joined_as (λ h x. by_body x) b.joined);
        all = all;
      })
        where
          all : (h : ℕ) → Brings a c p h → get_or w''.marks h 0 ≡ 1
          all h (by_body x) = b.all h x
          all h (by_fluent x) = b.joined.keeps h (o.all h x)

-- ---- one turn after another

brings_atom : {a : AtomArrays} {c : ClauseArrays} → Readable a c → {p h : ℕ} → Brings a c p h → h < length a.kinds.now
brings_atom s (by_body x) = omega (arith, x.in_body.is_atom, s.atoms x.in_body.place (omega (arith, x.in_body.to, s.clauses.ends x.clause x.within)))
brings_atom s (by_fluent x) = x.within

atoms_shut : {a : AtomArrays} {c : ClauseArrays} → Readable a c → Shut (Brings a c) (λ p. ltb p (length a.kinds.now))
atoms_shut {a} s = record { at = λ p h b t. lt→ltb h (length a.kinds.now) (brings_atom s b) }

pub follow_visit : (s : Steps) (w₀ : Worklist) → Following s.atoms w₀ → (w : Worklist) (at : ℕ) → Closing (Brings s.atoms s.clauses) w₀.marks w at → at < w.many → Visit s.atoms s.clauses w at
follow_visit s w₀ f w at i lt = record {
  turn = record { work = i.work; waits = lt };
  atom = ltb→lt (get_or w.queue at 0) (length s.atoms.kinds.now)
      (i.grew.least (λ p. ltb p (length s.atoms.kinds.now)) (atoms_shut s.indexed.readable) (λ p e. lt→ltb p (length s.atoms.kinds.now) (let no : length s.atoms.kinds.now ≤ p → ⊥ = λ ge. omega (arith, f.after p ge) in omega arith))
      (get_or w.queue at 0) (w.queued.marked at lt));
}

-- ---- the seeds

module _ {G : Game} {a : AtomArrays} {c : ClauseArrays} (laid : Laid G a c) {seat : ℕ} {w : Worklist} (f : Sown a seat (length a.kinds.now) w) where
  flag_on : (p : ℕ) → p < length G.atoms → on w.marks p ≡ is_seed seat (atom_at G p)
  flag_on p lt = rw (f.below p (omega (arith, laid_long laid)), laid_kind laid p, laid_first laid p) (back (is_seed seat (atom_at G p)))
    where
      back : (b : Bool) → eqb (bit b) 1 ≡ b
      back true = refl
      back false = refl

  seed_on : (p : ℕ) → p < length G.atoms → T (is_seed seat (atom_at G p)) → T (on w.marks p)
  seed_on p lt t = subst T (sym (flag_on p lt)) t

  on_seed_lem : (p : ℕ) → T (on w.marks p) → (p < length G.atoms) × T (is_seed seat (atom_at G p))
  on_seed_lem p t = elim (dec_lt p (length G.atoms)) [
    | yes lt ↦ (lt, subst T (flag_on p lt) t)
    | no ge ↦ absurd (omega (arith, eqb→eq (get_or w.marks p 0) 1 t, f.after p (omega (arith, laid_long laid))))
  ]

-- ---- the promise

module _ (a : AtomArrays) (c : ClauseArrays) (r : Ready a c) where
  pub reach_unsown : (w : Worklist) → w.marks ≡ no_marks → Unsown a w
  reach_unsown w e = record { columns = ready_columns a c r; unmarked = e }

  pub reach_heads : (first next : List ℕ) → first ≡ B.no_clauses → next ≡ B.no_more_clauses → B.Unindexed c.heads.now first next
  reach_heads first next ef en = record { is_heads = (ready_readable a c r).clauses.is_heads; empty_clauses = ef; no_more = en }

  pub reach_atoms : (first next : List ℕ) → first ≡ O.no_atoms → next ≡ O.no_more_atoms → O.Unindexed a first next
  reach_atoms first next ef en = record { columns = ready_columns a c r; empty_atoms = ef; no_more = en }

  pub reach_indexed : (first next fluents later : List ℕ) → B.Indexed c.heads.now first next → O.Indexed a fluents later → Indexed a c first next fluents later
  reach_indexed first next fluents later h o = record { readable = ready_readable a c r; clauses = h; atoms = o }

  module _ (seat : ℕ) (w : Worklist) (f : Sown a seat (length a.kinds.now) w) where
    pub reach_reached : (m : List ℕ) → Closes (Brings a c) w.marks m → (G : Game) → Laid G a c → Reached G seat m
    reach_reached m x G laid = record {
      reach = record {
        reaches = record {
          seeds = λ p lt t. x.least.holds p (seed_on laid f p lt t);
          shut = record { body = λ d i t y k. x.least.shut.at d.head (atom_of y) (leads_brings laid (to_body d i y k)) t };
          onward = λ z p q pl ql t u. x.least.shut.at p q (leads_brings laid (to_next z pl ql t u));
        };
        least = λ Y y. x.least.least Y (λ p t. let (lt, u) = on_seed_lem laid f p t in y.seeds p lt u) (record { at = λ p q b. follow Y y (brings_leads laid b) });
      };
      long = x.long;
      bits = x.flags;
      after = λ p le.
          let no : get_or m p 0 ≡ 1 → ⊥ = λ e. omega (arith, ltb→lt p (length a.kinds.now) (inside p (eq→eqb (get_or m p 0) 1 e)), laid_long laid) in
          omega (arith, x.flags p);
    }
      where
        follow : (Y : Atoms) → Reaches G seat Y → {p q : ℕ} → Leads G p q → T (Y p) → T (Y q)
        follow Y y (to_body d i z k) t = y.shut.body d i t z k
        follow Y y {p} {q} (to_next z pl ql u v) t = y.onward z p q pl ql u v t

        inside : (p : ℕ) → T (on m p) → T (ltb p (length a.kinds.now))
        inside = x.least.least (λ p. ltb p (length a.kinds.now)) (λ p t. lt→ltb p (length a.kinds.now) (omega (arith, (on_seed_lem laid f p t).0, laid_long laid))) (atoms_shut (ready_readable a c r))
