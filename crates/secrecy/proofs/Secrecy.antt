-- Demand 3: `secret`.
use mathlib.Core.Path.{◌≡◌, refl, sym, ap, subst, ◌∙◌}
use mathlib.Core.Logic.{inl, inr, ⊎_elim}
use mathlib.Core.Bool.{Bool, ◌&&◌}
use mathlib.Core.List.{List, [], ◌∷◌, ◌++◌}
use Prim.Native.Nat.{ℕ, suc, ◌+◌, ◌*◌, ◌/◌, ◌%◌, ◌≤◌, ◌<◌}
use native.Mathlib.Omega.{arith}
use native.Mathlib.Decide.{ℕ_discrete}
use lib.Dec.{T, eqb, leb, eqb→eq}
use lib.Arith.{digits_div}
use lib.ListN.{length, get_or, drop}
use lib.Seq.{take-append_seam}
use borrow.Author.Tests.{le-ltb}
use Rattle.numbers.specs.Writing.{bytes_of}
use Rattle.refusals.specs.declared.Refusal.TheVariants.{Success, NoSuchSeat}
use Rattle.refusals.specs.Ruling.{refuse◌when◌, Ruling, passed, refused, first_of}
use Rattle.gdl.specs.Game.{Game, next_kind, sees_kind}
use Rattle.gdl.specs.Sets.{Atoms}
use Rattle.gdl.specs.Reach.{Reaches, Hidden}
use Rattle.gdl.specs.Flags.{on}
use Rattle.gdl.specs.Computed.{did, model, reach_of}
use Rattle.gdl.proofs.Reaching.{reach_is}
use Rattle.gdl.proofs.Agreeing.{HiddenDiffer, hidden_differ, sees_agree, legal_agree, goal_agree, end_agree, next_agree}
use Rattle.gdl.proofs.Agreeing as Agreeing
use Rattle.rules.specs.Verdict.{Verdict, fit}
use Rattle.rules.specs.Judged.{judge}
use Rattle.rules.specs.Accepted.{Accepted}
use Rattle.rules.proofs.Accepting.{accepted}
use Rattle.session.specs.Shape.{fluent_fits, percept_fits, shaped}
use Rattle.session.specs.declared.Session.{Session}
use Rattle.gdl.proofs.Walks.{flag_same, those_same}
use Rattle.session.proofs.Shapes.{Shaped, shaped_is}
use Rattle.calls.specs.Answer.{settle}
use Rattle.calls.specs.Position.{atom_in, still, moved, over, legal, goal, played}
use Rattle.calls.specs.Message.{percepts_of, legal_of, goals_of, message_numbers, message_bytes}
use Rattle.calls.specs.Calls.{message_tests, message}
use Rattle.calls.proofs.Rulings.{is_true_lem}
use Rattle.secrecy.specs.Histories.{Program, Keeps, promised, History, run, rounds, current, HiddenMove, AlikeRound, AlikeRounds, none_yet, one_more, Alike, SameMessage, Secret}
use Rattle.secrecy.proofs.Records.{choosing, replay, own_tests, own_answer, explained_same, good}

-- a program whose calls keep their promises is the promised one
pub keeps_same : (v : Verdict) (P : Program) → Keeps v P → promised v ≡ P
keeps_same v P k = λ i. record {
  opens = sym k.opens i;
  offers = λ σ s m. sym (k.offers σ s m) i;
  plays = λ σ. sym (k.plays σ) i;
  sends = λ σ z room. sym (k.sends σ z room) i;
}

module _ (G : Game) (ok : Accepted G) (z : ℕ) where
  -- what reaches the seat
  abbrev X : Atoms
  X = on (reach_of G z)

  ρ : Reaches G z X
  ρ = (reach_is G ok.valid z).reaches

  -- positions that agree on the fluents that reach the seat
  abbrev Near : List ℕ → List ℕ → Type 0
  Near pos pos' = Agreeing.Alike G X (on pos) (on pos')

  -- joint choices that are alike differ in nothing that reaches the seat
  differ : (ch ch' : List ℕ) → AlikeRound G z ch ch' → HiddenDiffer G X (did ch) (did ch')
  differ ch ch' al = hidden_differ G z X (reach_is G ok.valid z) (did ch) (did ch') (λ s. elim (ℕ_discrete s z) [
    | yes e ↦ inl (λ m. rw e (ap (λ (x : ℕ). eqb x (suc m)) al.own))
    | no ne ↦ ⊎_elim (λ e. inl (λ m. ap (λ (x : ℕ). eqb x (suc m)) e)) (λ h. inr (moves s ch h.0, moves s ch' h.1)) (al.others s ne)
  ])
    where
      moves : (s : ℕ) (c : List ℕ) → HiddenMove G z s c → (m : ℕ) → T (did c s m) → Hidden G z s m
      moves s c h m t = h.hidden m (eqb→eq (get_or c s 0) (suc m) t)

  none : HiddenDiffer G X (did []) (did [])
  none = record { seen = λ s m p lt named r. refl }

  -- ---- end, legal moves and goals in positions that are near

  module _ (pos pos' : List ℕ) (near : Near pos pos') where
    over_same : over G pos ≡ over G pos'
    unfolding over still
    over_same = end_agree G ok.valid z X ρ pos pos' [] [] near none

    legal_same : (m : ℕ) → legal G pos z m ≡ legal G pos' z m
    unfolding legal still
    legal_same = legal_agree G ok.valid z X ρ pos pos' [] [] near none

    goal_same : (x : ℕ) → goal G pos z x ≡ goal G pos' z x
    unfolding goal still
    goal_same = goal_agree G ok.valid z X ρ pos pos' [] [] near none

    answer_same : (b : Bool) (m : ℕ) → own_answer G z pos b m ≡ own_answer G z pos' b m
    unfolding own_answer own_tests
    answer_same b m = rw (over_same, legal_same m) refl

  -- ---- records that the seat cannot tell apart

  record Twins (σ τ : Session) : Type 0 where
    position : Near σ.position τ.position
    percepts : (p : ℕ) → p < G.percepts → on σ.percepts (z * 256 + p) ≡ on τ.percepts (z * 256 + p)
    round : σ.round ≡ τ.round

  played_twins : (σ τ : Session) (ch ch' : List ℕ) → Twins σ τ → AlikeRound G z ch ch' → Twins (played G (choosing σ ch)) (played G (choosing τ ch'))
  unfolding played moved
  played_twins σ τ ch ch' w al =
      let M : Atoms = on (model G σ.position ch) in
      let N : Atoms = on (model G τ.position ch') in
      record {
        position = record {
          agree = λ f p lt named r. flag_same (λ f. fluent_fits G f && atom_in G M next_kind f 0) (λ f. fluent_fits G f && atom_in G N next_kind f 0) 512 f
              (ap (λ (b : Bool). fluent_fits G f && b) (next_agree G ok.valid z X ρ σ.position τ.position ch ch' w.position (differ ch ch' al) f p lt named r));
        };
        percepts = λ p lt.
            let i : ℕ = z * 256 + p in
            let small : p < 256 = omega (arith, ok.limits.percepts) in
            let here : i / 256 ≡ z = digits_div z small in
            flag_same (λ i. percept_fits G i && atom_in G M sees_kind (i / 256) (i % 256)) (λ i. percept_fits G i && atom_in G N sees_kind (i / 256) (i % 256)) 2048 i
            (ap (λ (b : Bool). percept_fits G i && b) (subst (λ (s : ℕ). atom_in G M sees_kind s (i % 256) ≡ atom_in G N sees_kind s (i % 256)) (sym here)
            (sees_agree G ok.valid z X ρ σ.position τ.position ch ch' w.position (differ ch ch' al) (i % 256))));
        round = ap suc w.round;
      }

  twins : (cs cs' : List (List ℕ)) → AlikeRounds G z cs cs' → Twins (replay G cs) (replay G cs')
  unfolding replay
  twins cs cs' none_yet = record { position = record { agree = λ f p lt named r. refl }; percepts = λ p lt. refl; round = refl }
  twins cs cs' (one_more {ch = ch} {ch' = ch'} {cs = ds} {cs' = ds'} al als) = played_twins (replay G ds) (replay G ds') ch ch' (twins ds ds' als) al

  run_twins : (h h' : History) → Alike (promised (fit G)) G z h h' → Twins (run (promised (fit G)) h) (run (promised (fit G)) h')
  run_twins h h' al =
      let w : Twins (replay G (rounds (promised (fit G)) h)) (replay G (rounds (promised (fit G)) h')) = twins (rounds (promised (fit G)) h) (rounds (promised (fit G)) h') al in
      let a = good G ok z h in
      let b = good G ok z h' in
      record {
        position = rw (a.position, b.position) w.position;
        percepts = rw (a.percepts, b.percepts) w.percepts;
        round = rw (a.round, b.round) w.round;
      }

  -- ---- the message

  numbers_same : (σ τ : Session) → Twins σ τ → message_numbers G σ z ≡ message_numbers G τ z
  unfolding message_numbers
  numbers_same σ τ w =
      let end : over G σ.position ≡ over G τ.position = over_same σ.position τ.position w.position in
      let ps : percepts_of G σ z ≡ percepts_of G τ z = those_same _ _ G.percepts w.percepts in
      let ls : legal_of G σ z ≡ legal_of G τ z = those_same _ _ G.moves (λ m lt. legal_same σ.position τ.position w.position m) in
      let gs : goals_of G σ z ≡ goals_of G τ z = those_same _ _ 101 (λ x lt. goal_same σ.position τ.position w.position x) in
      cc (end, ps, ls, gs, w.round)

  bytes_same : (σ τ : Session) → Twins σ τ → message_bytes G σ z ≡ message_bytes G τ z
  unfolding message_bytes
  bytes_same σ τ w = ap bytes_of (numbers_same σ τ w)

  message_same : (σ τ : Session) → Shaped G σ → Shaped G τ → Twins σ τ → (room room' : List ℕ) → 1024 ≤ length room → 1024 ≤ length room'
      → SameMessage (message (fit G) σ z room) (message (fit G) τ z room')
  unfolding message message_tests
  message_same σ τ a b w room room' big big' =
      rw (is_true_lem (shaped G σ) (shaped_is G σ a), is_true_lem (shaped G τ) (shaped_is G τ b), le-ltb (length room) 1024 big, le-ltb (length room') 1024 big')
      (go (first_of (refuse NoSuchSeat when leb G.seats z ∷ [])) (message_bytes G σ z) (message_bytes G τ z) (bytes_same σ τ w))
    where
      go : (a : Ruling) (m m' : List ℕ) → m ≡ m' → SameMessage
          (settle a (λ r. (record { refusal = r; length = 0 }, room)) (record { refusal = Success; length = length m }, m ++ drop (length m) room))
          (settle a (λ r. (record { refusal = r; length = 0 }, room')) (record { refusal = Success; length = length m' }, m' ++ drop (length m') room'))
      go passed m m' e = record {
        refusal = refl;
        length = ap length e;
        bytes = take-append_seam m (drop (length m) room) ∙ (e ∙ sym (take-append_seam m' (drop (length m') room')));
      }
      go (refused r) m m' e = record { refusal = refl; length = refl; bytes = refl }

  promised_secret : Secret (promised (fit G)) G z
  promised_secret = record {
    messages = λ h h' al room room' big big'. message_same (run (promised (fit G)) h) (run (promised (fit G)) h') (good G ok z h).shape (good G ok z h').shape (run_twins h h' al) room room' big big';
    offers = λ h h' al same. explained_same (own_answer G z (run (promised (fit G)) h).position) (own_answer G z (run (promised (fit G)) h').position)
        (answer_same (run (promised (fit G)) h).position (run (promised (fit G)) h').position (run_twins h h' al).position)
        (current (promised (fit G)) z h) (current (promised (fit G)) z h') (good G ok z h).explained (good G ok z h').explained same;
  }

  pub secret : (P : Program) → Keeps (fit G) P → Secret P G z
  secret P k = subst (λ (Q : Program). Secret Q G z) (keeps_same (fit G) P k) promised_secret

-- demand 3, of the bytes of any table that the check accepts, of any program whose calls keep their promises, and for every seat
pub demand_3 : (s : List ℕ) (G : Game) → judge s ≡ fit G → (P : Program) → Keeps (judge s) P → (z : ℕ) → Secret P G z
demand_3 s G e P k z = secret G (accepted s G e) z P (subst (λ (v : Verdict). Keeps v P) e k)
