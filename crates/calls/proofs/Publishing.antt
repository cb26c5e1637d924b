-- Demand 2 as one theorem, `published`.
use mathlib.Core.Path.{◌≡◌, refl, sym, ap, subst}
use mathlib.Core.Logic.{◌⊎◌, inl, inr, ◌↔◌}
use mathlib.Core.Bool.{Bool, true, false, not, ◌&&◌, cond}
use mathlib.Core.List.{List, []}
use Prim.Native.Nat.{ℕ, zero, suc, ◌+◌, ◌-◌, ◌*◌, ◌≤◌, ◌<◌}
use native.Mathlib.Omega.{arith}
use lib.Dec.{T, eqb, eqb→eq}
use lib.ListN.{get_or, drop, get_or-append}
use lib.ListN as N
use lib.Seq.{get_or-set_same, get_or-set_other}
use borrow.Author.Tests.{lt-leb, le-ltb, leb-false, eqb-false, eq-eqb, ne_eqb, not-false}
use Rattle.refusals.specs.declared.Refusal.{Refusal}
use Rattle.refusals.specs.declared.Refusal.TheVariants.{Success}
use Rattle.gdl.specs.Game.{Game, legal_kind, goal_kind}
use Rattle.gdl.specs.Published.{t, l, u, 𝓘, g}
use Rattle.gdl.specs.Flags.{on, bit}
use Rattle.gdl.specs.Computed.{did, model, hidden, reach_of}
use Rattle.gdl.proofs.Tests.{and_both}
use Rattle.gdl.proofs.Bits.{bits_at, model_bits}
use Rattle.gdl.proofs.Modelled.{model_length, model_is, model_only}
use Rattle.gdl.proofs.Reaching.{reach_is, hidden_means}
use Rattle.rules.specs.Verdict.{fit}
use Rattle.rules.specs.Judged.{judge}
use Rattle.rules.specs.Accepted.{Accepted}
use Rattle.rules.proofs.Accepting.{accepted}
use Rattle.session.specs.Shape.{PositionFits, ChoicesFit, WellShaped, position_shaped, choices_shaped, shaped}
use Rattle.session.specs.declared.Session.{Session}
use Rattle.session.proofs.Shapes.{position_means, choices_mean, shaped_means}
use Rattle.calls.specs.declared.Moved.{Moved}
use Rattle.calls.specs.declared.Sent.{Sent}
use Rattle.calls.specs.declared.Looked.{Looked}
use Rattle.calls.specs.Position.{over, legal, goal, moved, stored, played}
use Rattle.calls.specs.Message.{percepts_of, legal_of, goals_of, message_numbers, message_bytes}
use Rattle.calls.specs.Calls.{unchosen, illegal, open_game, offer, play, message, truth, hidden_from}
use Rattle.calls.specs.Promises.{Flag, HiddenSaid}
use Rattle.calls.specs.Published.{state_of, Lists, MessageMeans, Chose, Playable, TruthMeans, Published}
use Rattle.calls.proofs.Rulings.{is_true_lem, is_false, from_true, from_false, lowest_nowhere, no_lowest}
use Rattle.calls.proofs.Returns.{offer_done, play_done, message_done, model_done, hidden_done}
use Rattle.calls.proofs.Passing.{offer_passes, PlayPasses, play_passes}
use Rattle.calls.proofs.Listing.{those_list, none_list}
use Rattle.calls.proofs.Meanings.{over_means, legal_means, goal_means, bounds, roles_mean, opening_means, next_means, percepts_mean}

-- a bit as a flag of what it stands for
pub bit_flag : {P : Type 0} (b : Bool) → T b ↔ P → Flag P (bit b)
bit_flag true h = record { bit = inr refl; one = (λ e. h.0 tt, λ p. refl) }
bit_flag false h = record { bit = inl refl; one = (λ e. let z : ◌≡◌ {A = ℕ} 0 1 = e in absurd (omega arith), λ p. absurd (h.1 p)) }

-- an element of a list of flags
pub element_flag : {P : Type 0} (x : ℕ) → (x ≡ 0) ⊎ (x ≡ 1) → T (eqb x 1) ↔ P → Flag P x
element_flag x b h = record { bit = b; one = (λ e. h.0 (rw (eq-eqb x 1 e) tt), λ p. eqb→eq x 1 (h.1 p)) }

module _ (G : Game) (ok : Accepted G) where
  well_shaped : (σ : Session) → WellShaped G σ → shaped G σ ≡ true
  well_shaped σ w = is_true_lem (shaped G σ) ((shaped_means G σ).1 w)

  -- ---- the end

  going : (σ : Session) → ¬ t G (state_of σ) → over G σ.position ≡ false
  going σ h = is_false (over G σ.position) (λ x. h ((over_means G ok σ.position).0 x))

  not_over : (σ : Session) → over G σ.position ≡ false → ¬ t G (state_of σ)
  not_over σ e x = from_false (over G σ.position) e ((over_means G ok σ.position).1 x)

  -- ---- offer

  legal_gives : (σ : Session) (r m : ℕ) → WellShaped G σ → ¬ t G (state_of σ) → get_or σ.choices r 0 ≡ 0
      → ((offer (fit G) σ r m).refusal ≡ Success) ↔ l G r m (state_of σ)
  legal_gives σ r m shape end free = (
    λ e. (legal_means G ok σ.position r m).0 (from_true (legal G σ.position r m) (offer_passes G σ r m e).allowed),
    λ e.
        let b = bounds G ok _ _ legal_kind r m e in
        ap (λ (a : Moved). a.refusal) (sym (offer_done G σ r m (well_shaped σ shape) (going σ end) (lt-leb G.seats r b.0) (lt-leb G.moves m b.1)
        (ap not (eq-eqb (get_or σ.choices r 0) 0 free)) (is_true_lem (legal G σ.position r m) ((legal_means G ok σ.position r m).1 e)))),
  )

  offering_gives : (σ : Session) (r m : ℕ) → N.length σ.choices ≡ 8 → (offer (fit G) σ r m).refusal ≡ Success → Chose σ r m (offer (fit G) σ r m).session
  unfolding stored
  offering_gives σ r m size e =
      let w = offer_passes G σ r m e in
      let lt : r < N.length σ.choices = omega (arith, leb-false G.seats r w.seat, ok.limits.seats) in
      subst (λ (a : Moved). Chose σ r m a.session) (offer_done G σ r m w.shape w.going w.seat w.move w.free w.allowed) (record {
        own = get_or-set_same σ.choices r (suc m) 0 lt;
        others = λ s ne. get_or-set_other σ.choices r s (suc m) 0 ne;
        position = refl;
        percepts = refl;
        round = refl;
      })

  -- ---- play

  play_works : (σ : Session) → (play (fit G) σ).refusal ≡ Success → record { refusal = Success; session = played G σ } ≡ play (fit G) σ
  play_works σ e = let w = play_passes G σ e in play_done G σ w.shape w.going w.full w.allowed w.more

  playing_gives : (σ : Session) → WellShaped G σ → ((play (fit G) σ).refusal ≡ Success) ↔ Playable G σ
  playing_gives σ shape = (λ e. playable (play_passes G σ e), λ w. ap (λ (a : Moved). a.refusal) (sym (plays w)))
    where
      playable : PlayPasses G σ → Playable G σ
      playable k = record {
        going = not_over σ k.going;
        each = λ r lt. choice r lt (get_or σ.choices r 0) refl;
        rounds = eqb-false σ.round 65535 k.more;
      }
        where
          choice : (r : ℕ) → r < G.seats → (x : ℕ) → get_or σ.choices r 0 ≡ x → (m : ℕ) × (get_or σ.choices r 0 ≡ suc m) × l G r m (state_of σ)
          choice r lt zero e = absurd (eqb-false (get_or σ.choices r 0) 0 (lowest_nowhere (unchosen σ) G.seats k.full r lt) e)
          choice r lt (suc m) e =
              let d : get_or σ.choices r 0 - 1 ≡ m = omega arith in
              let f : not (legal G σ.position r (get_or σ.choices r 0 - 1)) ≡ false = lowest_nowhere (illegal G σ) G.seats k.allowed r lt in
              (m, e, (legal_means G ok σ.position r m).0 (from_true (legal G σ.position r m) (not-false (legal G σ.position r m) (rw d at f))))

      plays : Playable G σ → record { refusal = Success; session = played G σ } ≡ play (fit G) σ
      plays w = play_done G σ (well_shaped σ shape) (going σ w.going)
          (no_lowest (unchosen σ) G.seats (λ r lt. let c = w.each r lt in ne_eqb (get_or σ.choices r 0) 0 (λ z. omega (arith, c.1))))
          (no_lowest (illegal G σ) G.seats (λ r lt. let c = w.each r lt in is_legal_lem r c.0 c.1 c.2))
          (ne_eqb σ.round 65535 w.rounds)
        where
          is_legal_lem : (r m : ℕ) → get_or σ.choices r 0 ≡ suc m → l G r m (state_of σ) → illegal G σ r ≡ false
          is_legal_lem r m e h =
              let d : get_or σ.choices r 0 - 1 ≡ m = omega arith in
              rw d (ap not (is_true_lem (legal G σ.position r m) ((legal_means G ok σ.position r m).1 h)))

  -- ---- message

  may_list : (σ : Session) (r : ℕ) (b : Bool) → over G σ.position ≡ b → Lists (λ m. (¬ t G (state_of σ)) × l G r m (state_of σ)) (cond b [] (legal_of G σ r))
  may_list σ r true e = none_list _ (λ m p. p.0 ((over_means G ok σ.position).0 (from_true (over G σ.position) e)))
  may_list σ r false e = those_list G.moves (legal G σ.position r) _ (λ m. (
    λ p. (not_over σ e, (legal_means G ok σ.position r m).0 p.1),
    λ p. ((bounds G ok _ _ legal_kind r m p.1).1, (legal_means G ok σ.position r m).1 p.1),
  ))

  won_list : (σ : Session) (r : ℕ) (b : Bool) → over G σ.position ≡ b → Lists (λ n. t G (state_of σ) × g G r n (state_of σ)) (cond b (goals_of G σ r) [])
  won_list σ r false e = none_list _ (λ n p. not_over σ e p.0)
  won_list σ r true e = those_list 101 (goal G σ.position r) _ (λ n. (
    λ p. ((over_means G ok σ.position).0 (from_true (over G σ.position) e), (goal_means G ok σ.position r n).0 p.1),
    λ p. ((bounds G ok _ _ goal_kind r n p.1).1, (goal_means G ok σ.position r n).1 p.1),
  ))

  message_gives : (σ : Session) (r : ℕ) (room : List ℕ) → WellShaped G σ → r < G.seats → 1024 ≤ N.length room → MessageMeans G σ r room (message (fit G) σ r room)
  unfolding message_bytes message_numbers
  message_gives σ r room shape lt big =
      subst (λ (a : Sent × List ℕ). MessageMeans G σ r room a) (message_done G σ r room (well_shaped σ shape) (lt-leb G.seats r lt) (le-ltb (N.length room) 1024 big)) (record {
        end = bit (over G σ.position);
        percepts = percepts_of G σ r;
        moves = cond (over G σ.position) [] (legal_of G σ r);
        goals = cond (over G σ.position) (goals_of G σ r) [];
        ended = bit_flag (over G σ.position) (over_means G ok σ.position);
        seen = those_list G.percepts (λ p. on σ.percepts (r * 256 + p)) _ (λ p. (λ x. x, λ x. x));
        may = may_list σ r (over G σ.position) refl;
        won = won_list σ r (over G σ.position) refl;
        refusal = refl;
        length = refl;
        written = refl;
      })

  -- ---- the model call and hidden

  truth_gives : (pos ch room : List ℕ) → PositionFits G pos → ChoicesFit G ch → N.length G.atoms ≤ N.length room → TruthMeans G pos ch (truth (fit G) pos ch room)
  unfolding moved
  truth_gives pos ch room p c big =
      let A : ℕ = N.length G.atoms in
      let M : List ℕ = model G pos ch in
      subst (λ (a : Refusal × List ℕ). TruthMeans G pos ch a)
      (model_done G pos ch room (is_true_lem (position_shaped G pos && choices_shaped G ch) (and_both (position_shaped G pos) (choices_shaped G ch) ((position_means G pos).1 p) ((choices_mean G ch).1 c))) (le-ltb (N.length room) A big)) (record {
        refusal = refl;
        flags = λ X m i lt.
            rw (get_or-append M (drop A room) 0 i (rw (model_length G ok.valid pos ch) lt))
            (element_flag (get_or M i 0) (bits_at M i (model_bits G pos ch))
            (λ x. subst T (sym (model_only G ok.valid pos ch X m i)) x, λ x. subst T (model_only G ok.valid pos ch X m i) x));
      })

  hidden_gives : (r s m : ℕ) → r < G.seats → s < G.seats → m < G.moves → HiddenSaid G r s m (hidden_from (fit G) r s m)
  hidden_gives r s m rl sl ml = subst (λ (a : Looked). HiddenSaid G r s m a) (hidden_done G r s m (lt-leb G.seats r rl) (lt-leb G.seats s sl) (lt-leb G.moves m ml))
      (record { refusal = refl; hidden = bit_flag (hidden G r s m) (hidden_means G ok.valid r s m) })

  pub published : Published G
  unfolding open_game
  published = record {
    roles = roles_mean G ok;
    opens = refl;
    opening = opening_means G ok;
    legal = legal_gives;
    offering = offering_gives;
    playing = playing_gives;
    next = λ σ e f. subst (λ (a : Moved). T (state_of a.session f) ↔ u G (did σ.choices) (state_of σ) f) (play_works σ e) (next_means G ok σ f);
    percepts = λ σ e r p small. subst (λ (a : Moved). T (on a.session.percepts (r * 256 + p)) ↔ 𝓘 G r (did σ.choices) (state_of σ) p) (play_works σ e) (percepts_mean G ok σ r p small);
    message = message_gives;
    truth = truth_gives;
    hidden = hidden_gives;
    models = λ pos ch. (on (model G pos ch), model_is G ok.valid pos ch);
    reaches = λ z. (on (reach_of G z), reach_is G ok.valid z);
  }

-- demand 2, of the bytes of any table that the check accepts
pub demand_2 : (s : List ℕ) (G : Game) → judge s ≡ fit G → Published G
demand_2 s G e = published G (accepted s G e)
