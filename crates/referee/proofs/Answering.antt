-- From what was found in a table to the call's answer: on a refused table the refusal, on an accepted one what `answers` says of its game.
use mathlib.Core.Path.{◌≡◌, refl, sym, ap, subst, ◌∙◌}
use mathlib.Core.List.{List, [], ◌∷◌, map}
use lib.ListN.{length}
use Prim.Native.Nat.{ℕ, suc}
use lib.Dec.{eqb}
use Rattle.std.specs.Prelude.{Ok, Err, Result}
use Rattle.refusals.specs.declared.Refusal.{Refusal}
use Rattle.refusals.specs.declared.Refusal.TheVariants.{Success}
use Rattle.gdl.specs.Game.{Atom, Game}
use Rattle.gdl.specs.Flags.{on, bit, blank}
use Rattle.gdl.specs.Truth.{is_fact}
use Rattle.gdl.specs.Computed.{did, facts, levels_of, look, model, reach_of, run}
use Rattle.gdl.proofs.Walks.{zeros}
use Rattle.table.specs.declared.header.Header.{Header}
use Rattle.rules.specs.Verdict.{Verdict, unfit, fit}
use Rattle.rules.specs.Judged.{judge}
use Rattle.rules.specs.Accepted.{Accepted}
use Rattle.rules.proofs.Accepting.{accepted}
use Rattle.session.specs.Shape.{blank_session}
use Rattle.session.specs.declared.Session.{Session}
use Rattle.verdict.specs.Consulted.{Consulted, examined, found_in, Accepts}
use Rattle.calls.specs.declared.Claimed.{Claimed}
use Rattle.calls.specs.declared.Looked.{Looked}
use Rattle.calls.specs.declared.Moved.{Moved}
use Rattle.calls.specs.declared.Sent.{Sent}
use Rattle.calls.specs.Calls.{check, claim, open_game, offer, play, message, truth, hidden_from}
use Rattle.calls.specs.Promises.{CheckPromise, HiddenPromise, ModelPromise}
use Rattle.calls.proofs.Meeting.{check_meets, hidden_meets, model_meets}
use Rattle.answers.specs.Asked.{Asked, Traced}

-- ---- check and claim

-- what an examined table is answered
abbrev checked_as : Result Header Refusal → Refusal
checked_as (Err r) = r
checked_as (Ok h) = Success

abbrev claimed_as : Result Header Refusal → Claimed
claimed_as (Err r) = record { refusal = r; claim = 0 }
claimed_as (Ok h) = record { refusal = Success; claim = h.players.claim }

checked : (v : Verdict) → checked_as (examined v) ≡ check v
unfolding check
checked (unfit r) = refl
checked (fit G) = refl

pub check_kept : (s : List ℕ) (x : Result Header Refusal) → x ≡ examined (judge s) → CheckPromise s (checked_as x)
check_kept s x e = subst (CheckPromise s) (sym (ap checked_as e ∙ checked (judge s))) (check_meets s)

claimed : (v : Verdict) → claimed_as (examined v) ≡ claim v
unfolding claim
claimed (unfit r) = refl
claimed (fit G) = refl

pub claim_kept : (v : Verdict) (x : Result Header Refusal) → x ≡ examined v → claimed_as x ≡ claim v
claim_kept v x e = ap claimed_as e ∙ claimed v

-- ---- no choices are blank choices, no position a blank one

idle : (s m : ℕ) → did (blank 8) s m ≡ did [] s m
idle s m = ap (λ (x : ℕ). eqb x (suc m)) (zeros 8 s)

nowhere : (f : ℕ) → on (blank 512) f ≡ on [] f
nowhere f = ap (λ (x : ℕ). eqb x 1) (zeros 512 f)

facts_same : (G : Game) (pos pos' ch ch' : List ℕ) → ((f : ℕ) → on pos f ≡ on pos' f) → ((s m : ℕ) → did ch s m ≡ did ch' s m) → facts G pos ch ≡ facts G pos' ch'
unfolding facts
facts_same G pos pos' ch ch' e h = go G.atoms
  where
    go : (l : List Atom) → map (λ a. bit (is_fact (on pos) (did ch) a)) l ≡ map (λ a. bit (is_fact (on pos') (did ch') a)) l
    go [] = refl
    go (a ∷ l) = rw (e a.first, h a.first a.second, go l)

model_same : (G : Game) (pos pos' ch ch' : List ℕ) → facts G pos ch ≡ facts G pos' ch' → model G pos ch ≡ model G pos' ch'
unfolding model
model_same G pos pos' ch ch' e = ap (λ (x : List ℕ). run G.clauses (look (levels_of G)) x (suc (length G.atoms))) e

empty_is : (G : Game) → model G (blank 512) (blank 8) ≡ model G [] []
empty_is G = model_same G (blank 512) [] (blank 8) [] (facts_same G (blank 512) [] (blank 8) [] nowhere idle)

module _ {v : Verdict} {c : Consulted} (pos ch : List ℕ) (a : Accepts v (λ G. model G pos ch) c) where
  pub unchosen : ch ≡ blank 8 → Accepts v (λ G. model G pos (blank 8)) c
  unchosen h = subst (λ (x : List ℕ). Accepts v (λ G. model G pos x) c) h a

  pub unset : pos ≡ blank 512 → ch ≡ blank 8 → Accepts v (λ G. model G [] []) c
  unset h k =
      let e : model a.game pos ch ≡ model a.game [] [] =
      ap (λ (x : List ℕ). model a.game x ch) h ∙ (ap (λ (x : List ℕ). model a.game (blank 512) x) k ∙ empty_is a.game) in
      record { game = a.game; verdict = a.verdict; is = a.is ∙ ap (found_in a.game) e }

-- ---- an accepted table

module _ (t : List ℕ) {c : Consulted} where
  pub asked : (pos ch : List ℕ) → Accepts (judge t) (λ G. model G pos ch) c → Asked c pos ch
  asked pos ch a = record { game = a.game; accepted = accepted t a.game a.verdict; is = a.is }

  pub traced : (z : ℕ) → Accepts (judge t) (λ G. reach_of G z) c → Traced c z
  traced z a = record { game = a.game; accepted = accepted t a.game a.verdict; is = a.is }

  -- any call: what it answers on the game that was found is what it answers on the table
  pub answered : {A : Type 0} (flags_of : Game → List ℕ) → Accepts (judge t) flags_of c → (call : Verdict → A) (r : A)
      → ((G : Game) → Accepted G → c ≡ found_in G (flags_of G) → r ≡ call (fit G)) → r ≡ call (judge t)
  answered flags_of a call r f = rw a.verdict (f a.game (accepted t a.game a.verdict) a.is)

-- ---- a refused table

module _ (t : List ℕ) (r : Refusal) (e : judge t ≡ unfit r) where
  pub open_refused : (σ : Session) → σ ≡ blank_session → ◌≡◌ {A = Moved} (record { refusal = r; session = σ }) (open_game (judge t))
  unfolding open_game
  open_refused σ h = rw (e, h) refl

  pub offer_refused : (σ : Session) (s m : ℕ) → ◌≡◌ {A = Moved} (record { refusal = r; session = σ }) (offer (judge t) σ s m)
  unfolding offer
  offer_refused σ s m = rw e refl

  pub play_refused : (σ : Session) → ◌≡◌ {A = Moved} (record { refusal = r; session = σ }) (play (judge t) σ)
  unfolding play
  play_refused σ = rw e refl

  pub message_refused : (σ : Session) (z : ℕ) (room : List ℕ) → ◌≡◌ {A = Sent × List ℕ} (record { refusal = r; length = 0 }, room) (message (judge t) σ z room)
  unfolding message
  message_refused σ z room = rw e refl

  pub model_refused : (pos ch room : List ℕ) → (r, room) ≡ truth (judge t) pos ch room
  unfolding truth
  model_refused pos ch room = rw e refl

  pub hidden_refused : (z s m : ℕ) → ◌≡◌ {A = Looked} (record { refusal = r; hidden = 0 }) (hidden_from (judge t) z s m)
  unfolding hidden_from
  hidden_refused z s m = rw e refl

-- ---- the promises that are relations

pub hidden_kept : (t : List ℕ) (z s m : ℕ) (r : Looked) → r ≡ hidden_from (judge t) z s m → HiddenPromise (judge t) z s m r
hidden_kept t z s m r q = subst (HiddenPromise (judge t) z s m) (sym q) (hidden_meets t z s m)

pub model_kept : (t pos ch room : List ℕ) (a : Refusal × List ℕ) → a ≡ truth (judge t) pos ch room → ModelPromise (judge t) pos ch room a
model_kept t pos ch room a q = subst (ModelPromise (judge t) pos ch room) (sym q) (model_meets t pos ch room)

pub model_answered : (t pos ch room : List ℕ) {c : Consulted} → Accepts (judge t) (λ G. model G pos ch) c → (a : Refusal × List ℕ)
    → ((G : Game) → Accepted G → c ≡ found_in G (model G pos ch) → a ≡ truth (fit G) pos ch room) → ModelPromise (judge t) pos ch room a
model_answered t pos ch room w a f = model_kept t pos ch room a (answered t (λ G. model G pos ch) w (λ v. truth v pos ch room) a f)
