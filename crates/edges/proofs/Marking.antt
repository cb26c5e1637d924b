-- The laws of one mark more, of some more, and of the seeds.
use mathlib.Core.Path.{◌≡◌, refl, ap, ◌∙◌}
use mathlib.Core.Logic.{◌⊎◌, inl, inr}
use mathlib.Core.List.{List, [], ◌∷◌}
use Prim.Native.Nat.{ℕ, zero, suc, ◌+◌, ◌*◌, ◌<◌, ◌≤◌}
use native.Mathlib.Nat.{not-suc-le-zero}
use native.Mathlib.Numerals.{add-one}
use native.Mathlib.Omega.{arith}
use lib.Dec.{eqb}
use lib.ListN.{length, get_or, set, take, length-set, length-replicate}
use lib.Seq.{get_or-set_same, get_or-set_other}
use mir.Syntax.{w64}
use mir.Val.{Fits}
use borrow.Author.Tests.{eq-eqb, ne_eqb}
use borrow.Author.Count.{below_more}
use Rattle.gdl.specs.Flags.{bit, count}
use Rattle.gdl.proofs.Closing.{count_length}
use Rattle.edges.specs.Queue.{no_marks, Queue, Seeded}
use Rattle.edges.specs.Marks.{Pushable, Pushed, Marked, Waits, Joined, Waiting, Gathered}
use Rattle.edges.specs.declared.worklist.Worklist.{Worklist}
use Rattle.edges.proofs.Setting.{after_set, blank_at}

count_set : (m : List ℕ) (i : ℕ) → i < length m → (get_or m i 0 ≡ 1 → ⊥) → count (set m i 1) ≡ suc (count m)
unfolding count
count_set [] i lt ne = absurd (not-suc-le-zero lt)
count_set (x ∷ xs) zero lt ne = omega (arith, ap bit (ne_eqb x 1 ne))
count_set (x ∷ xs) (suc i) lt ne = omega (arith, count_set xs i (omega arith) ne)

-- ---- one node at the end of the queue

-- a node that is not marked leaves room in the queue
has_room : (m q : List ℕ) (n h : ℕ) → Queue m q n → h < 1024 → (get_or m h 0 ≡ 1 → ⊥) → n < 1024
has_room m q n h k lt ne = omega (arith, count_set m h (omega (arith, k.long)) ne, count_length (set m h 1), length-set m h 1, k.long, k.room)

grow : (m : List ℕ) (h p : ℕ) → h < length m → get_or m p 0 ≡ 1 → get_or (set m h 1) p 0 ≡ 1
grow m h p lt = after_set m h 1 lt (λ p x. get_or m p 0 ≡ 1 → x ≡ 1) (λ e. refl) (λ p np e. e) p

module _ (m q : List ℕ) (n h : ℕ) (k : Queue m q n) (lt : h < 1024) (ne : get_or m h 0 ≡ 1 → ⊥) where
  within : h < length m
  within = omega (arith, k.long)

  pub mark_queue : Queue (set m h 1) q n
  mark_queue = record {
    marked = λ j b. grow m h (get_or q j 0) within (k.marked j b);
    nodes = k.nodes;
    flags = after_set m h 1 within (λ p x. x ≤ 1) (omega arith) (λ p np. k.flags p);
    long = length-set m h 1 ∙ k.long;
    room = omega (arith, k.room, count_set m h within ne);
    queue_long = k.queue_long;
  }

  pub mark_room : n < count (set m h 1)
  mark_room = omega (arith, k.room, count_set m h within ne)

pub mark_here : (m q : List ℕ) (n h : ℕ) → Queue m q n → h < 1024 → get_or (set m h 1) h 0 ≡ 1
mark_here m q n h k lt = get_or-set_same m h 1 0 (omega (arith, k.long))

module _ (p : ℕ) (w : Worklist) (g : Pushable p w) where
  pub push_room : w.many < 1024
  push_room = omega (arith, g.room, count_length w.marks, w.queued.long)

  pub push_scaled : Fits w64 (w.many * 2)
  push_scaled = omega (arith, push_room)

  pub push_queue : Queue w.marks (set w.queue w.many p) (w.many + 1)
  push_queue = record {
    marked = after_set w.queue w.many p inq (λ j x. j < w.many + 1 → get_or w.marks x 0 ≡ 1) (λ b. g.marked) (λ j nj b. w.queued.marked j (omega arith));
    nodes = after_set w.queue w.many p inq (λ j x. j < w.many + 1 → x < 1024) (λ b. g.node) (λ j nj b. w.queued.nodes j (omega arith));
    flags = w.queued.flags;
    long = w.queued.long;
    room = omega (arith, g.room);
    queue_long = length-set w.queue w.many p ∙ w.queued.queue_long;
  }
    where
      inq : w.many < length w.queue
      inq = omega (arith, w.queued.queue_long, push_room)

pub ruleset pushes = (push_room, push_scaled)

-- ---- nodes that join

pub joined_more : {P : ℕ → Type 0} {w w' w'' : Worklist} → Joined P w w' → Joined P w' w'' → Joined P w w''
joined_more a b = record {
  keeps = λ p e. b.keeps p (a.keeps p e);
  new = λ p e. elim (b.new p e) [
    | inl f ↦ elim (a.new p f) [
      | inl g ↦ inl g
      | inr (x, v) ↦ inr (x, record { j = v.j; from = v.from; to = omega (arith, v.to, b.more); is = b.before v.j v.to ∙ v.is })
    ]
    | inr (x, v) ↦ inr (x, record { j = v.j; from = omega (arith, v.from, a.more); to = v.to; is = v.is })
  ];
  before = λ j lt. b.before j (omega (arith, a.more)) ∙ a.before j lt;
  more = omega (arith, a.more, b.more);
}

pub joined_as : {P Q : ℕ → Type 0} {w w' : Worklist} → ((p : ℕ) → P p → Q p) → Joined P w w' → Joined Q w w'
joined_as f a = record {
  keeps = a.keeps;
  new = λ p e. elim (a.new p e) [ inl g ↦ inl g | inr (x, v) ↦ inr (f p x, v) ];
  before = a.before;
  more = a.more;
}

-- ---- one node

pub record One (P : ℕ → Type 0) (h : ℕ) (w w' : Worklist) : Type 0 where
  pub joined : Joined P w w'
  pub here : get_or w'.marks h 0 ≡ 1

pub one : {P : ℕ → Type 0} {h : ℕ} {w w' : Worklist} → h < 1024 → P h → Marked h w w' → One P h w w'
one lt is (inl (e, s)) = record {
  joined = record { keeps = λ p f. rw s.marks f; new = λ p f. inl (rw s.marks at f); before = λ j b. rw s.queue refl; more = omega (arith, s.many) };
  here = rw s.marks e;
}
one {P} {h} {w} {w'} lt is (inr (ne, j)) = record {
  joined = record {
    keeps = λ p e. rw j.marks (grow w.marks h p inm e);
    new = λ p e. after_set w.marks h 1 inm (λ p x. x ≡ 1 → (get_or w.marks p 0 ≡ 1) ⊎ (P p × Waits w' w.many p))
        (λ f. inr (is, record { j = w.many; from = omega arith; to = omega (arith, j.many); is = rw j.queue (get_or-set_same w.queue w.many h 0 inq) }))
        (λ p np f. inl f) p (rw j.marks at e);
    before = λ i b. rw j.queue (get_or-set_other w.queue w.many i h 0 (λ e. omega arith));
    more = omega (arith, j.many);
  };
  here = rw j.marks (get_or-set_same w.marks h 1 0 inm);
}
  where
    inm : h < length w.marks
    inm = omega (arith, w.queued.long)

    inq : w.many < length w.queue
    inq = omega (arith, w.queued.queue_long, has_room w.marks w.queue w.many h w.queued lt ne)

-- ---- the seeds

pub unset : (p : ℕ) → get_or no_marks p 0 ≡ 0
unfolding no_marks
unset p = blank_at 1024 p

pub no_marks_long : length no_marks ≡ 1024
unfolding no_marks
no_marks_long = length-replicate {A = ℕ} 1024 0

pub queue_none : (m q : List ℕ) → length m ≡ 1024 → ((p : ℕ) → get_or m p 0 ≤ 1) → length q ≡ 1024 → Queue m q 0
queue_none m q long flags queue_long = record {
  marked = λ j lt. absurd (not-suc-le-zero lt);
  nodes = λ j lt. absurd (not-suc-le-zero lt);
  flags = flags;
  long = long;
  room = omega arith;
  queue_long = queue_long;
}

pub queue_blank : Queue no_marks no_marks 0
queue_blank = queue_none no_marks no_marks no_marks_long (λ p. omega (arith, unset p)) no_marks_long

-- marks made one by one
pub waiting_none : (w : Worklist) → w.marks ≡ no_marks → Waiting w
waiting_none w em = record { waits = λ j e. absurd (omega (arith, unset j, rw em at e)) }

pub waiting_more : {P : ℕ → Type 0} {w w' : Worklist} → Waiting w → Joined P w w' → Waiting w'
waiting_more i a = record {
  waits = λ p e. elim (a.new p e) [
    | inl f ↦ let v = i.waits p f in record { j = v.j; from = v.from; to = omega (arith, v.to, a.more); is = a.before v.j v.to ∙ v.is }
    | inr (x, v) ↦ record { j = v.j; from = omega arith; to = v.to; is = v.is }
  ];
}

-- marks that are lent, queued one by one
count_take : (m : List ℕ) (p : ℕ) → p < length m → count (take (suc p) m) ≡ count (take p m) + bit (eqb (get_or m p 0) 1)
unfolding count
count_take [] p lt = absurd (not-suc-le-zero lt)
count_take (x ∷ m) zero lt = omega arith
count_take (x ∷ m) (suc p) lt = omega (arith, count_take m p (omega arith))

take_under : (m : List ℕ) (p : ℕ) → count (take p m) ≤ count m
unfolding count
take_under m zero = omega arith
take_under [] (suc p) = omega arith
take_under (x ∷ m) (suc p) = omega (arith, take_under m p)

module _ (m : List ℕ) (size : ℕ) (s : Seeded m size) where
  module _ (w : Worklist) (p : ℕ) (i : Gathered m w p) (lt : p < size) where
    pub gather_node : p < 1024
    gather_node = omega (arith, s.few)

    inside : p < length m
    inside = omega (arith, s.long, gather_node)

    pub gather_pushable : get_or w.marks p 0 ≡ 1 → Pushable p w
    gather_pushable e =
        let one : get_or m p 0 ≡ 1 = rw i.marks at e in
        record { node = gather_node; marked = e; room = rw i.marks (omega (arith, i.room, count_take m p inside, take_under m (suc p), ap bit (eq-eqb (get_or m p 0) 1 one))) }

    pub gather_more : get_or w.marks p 0 ≡ 1 → (w' : Worklist) → Pushed p w w' → Gathered m w' (p + 1)
    gather_more e w' g =
        let one : get_or m p 0 ≡ 1 = rw i.marks at e in
        record {
          marks = g.marks ∙ i.marks;
          waits = below_more (λ (j : ℕ). get_or m j 0 ≡ 1 → Waits w' 0 j) p
              (λ j b f. let v = i.waits j b f in record { j = v.j; from = v.from; to = omega (arith, v.to, g.many); is = rw g.queue (get_or-set_other w.queue w.many v.j p 0 (λ z. omega (arith, v.to)) ∙ v.is) })
              (λ f. record { j = w.many; from = omega arith; to = omega (arith, g.many); is = rw g.queue (get_or-set_same w.queue w.many p 0 inq) });
          room = rw (add-one p) (omega (arith, g.many, i.room, count_take m p inside, ap bit (eq-eqb (get_or m p 0) 1 one)));
        }
      where
        inq : w.many < length w.queue
        inq = omega (arith, w.queued.queue_long, push_room p w (gather_pushable e))

    pub gather_skip : (get_or w.marks p 0 ≡ 1 → ⊥) → Gathered m w (p + 1)
    gather_skip ne = record {
      marks = i.marks;
      waits = below_more (λ (j : ℕ). get_or m j 0 ≡ 1 → Waits w 0 j) p i.waits (λ f. absurd (ne (rw i.marks f)));
      room = rw (add-one p) (omega (arith, i.room, count_take m p inside));
    }
