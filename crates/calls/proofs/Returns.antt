-- One law for each return of a call on an accepted table: the premises are the outcomes of the tests, the conclusion is the promise.
use mathlib.Core.Path.{◌≡◌, refl}
use mathlib.Core.Bool.{true, false, ◌&&◌}
use mathlib.Core.List.{List, ◌++◌}
use Prim.Native.Nat.{ℕ, ◌+◌}
use lib.Dec.{eqb, leb, ltb}
use native.Mathlib.Numerals.{add-one}
use lib.ListN.{length, drop, set}
use Rattle.refusals.specs.declared.Refusal.TheVariants.{Success, RoomTooShort, NoSuchSeat, NoSuchMove, AlreadyChosen, NotLegal, GameOver, NoChoice, BadShape, LastRound}
use Rattle.refusals.specs.Ruling.{nowhere, found, lowest}
use Rattle.gdl.specs.Game.{Game}
use Rattle.gdl.specs.Flags.{bit}
use Rattle.gdl.specs.Computed.{hidden}
use Rattle.rules.specs.Verdict.{fit}
use Rattle.session.specs.Shape.{position_shaped, choices_shaped, shaped}
use Rattle.session.specs.declared.Session.{Session}
use Rattle.calls.specs.Position.{over, legal, opened, stored, played, moved}
use Rattle.calls.specs.Message.{message_bytes}
use Rattle.calls.specs.Calls.{chosen, unchosen, illegal, offer_tests, play_tests, message_tests, model_tests, hidden_tests, open_game, offer, play, truth, message, hidden_from}

-- ---- open

pub open_fit : (G : Game) → record { refusal = Success; session = opened G } ≡ open_game (fit G)
unfolding open_game
open_fit G = refl

-- ---- offer

module _ (G : Game) (σ : Session) (s m : ℕ) where
  pub offer_bad_shape : shaped G σ ≡ false → record { refusal = BadShape; session = σ } ≡ offer (fit G) σ s m
  unfolding offer offer_tests
  offer_bad_shape a = rw a refl

  module _ (a : shaped G σ ≡ true) where
    pub offer_over : over G σ.position ≡ true → record { refusal = GameOver; session = σ } ≡ offer (fit G) σ s m
    unfolding offer offer_tests
    offer_over b = rw (a, b) refl

    module _ (b : over G σ.position ≡ false) where
      pub offer_no_seat : leb G.seats s ≡ true → record { refusal = NoSuchSeat; session = σ } ≡ offer (fit G) σ s m
      unfolding offer offer_tests
      offer_no_seat c = rw (a, b, c) refl

      module _ (c : leb G.seats s ≡ false) where
        pub offer_no_move : leb G.moves m ≡ true → record { refusal = NoSuchMove; session = σ } ≡ offer (fit G) σ s m
        unfolding offer offer_tests
        offer_no_move d = rw (a, b, c, d) refl

        module _ (d : leb G.moves m ≡ false) where
          pub offer_chosen : chosen σ s ≡ true → record { refusal = AlreadyChosen; session = σ } ≡ offer (fit G) σ s m
          unfolding offer offer_tests
          offer_chosen e = rw (a, b, c, d, e) refl

          module _ (e : chosen σ s ≡ false) where
            pub offer_illegal : legal G σ.position s m ≡ false → record { refusal = NotLegal 0; session = σ } ≡ offer (fit G) σ s m
            unfolding offer offer_tests
            offer_illegal f = rw (a, b, c, d, e, f) refl

            pub offer_done : legal G σ.position s m ≡ true → record { refusal = Success; session = stored σ s m } ≡ offer (fit G) σ s m
            unfolding offer offer_tests
            offer_done f = rw (a, b, c, d, e, f) refl

            -- the record as the code makes it
            pub offer_stored : legal G σ.position s m ≡ true
                → record { refusal = Success; session = record { position = σ.position; choices = set σ.choices s (m + 1); percepts = σ.percepts; round = σ.round } } ≡ offer (fit G) σ s m
            unfolding stored
            offer_stored f = rw (add-one m) (offer_done f)

-- ---- play

module _ (G : Game) (σ : Session) where
  pub play_bad_shape : shaped G σ ≡ false → record { refusal = BadShape; session = σ } ≡ play (fit G) σ
  unfolding play play_tests
  play_bad_shape a = rw a refl

  module _ (a : shaped G σ ≡ true) where
    pub play_over : over G σ.position ≡ true → record { refusal = GameOver; session = σ } ≡ play (fit G) σ
    unfolding play play_tests
    play_over b = rw (a, b) refl

    module _ (b : over G σ.position ≡ false) where
      pub play_no_choice : (p : ℕ) → lowest (unchosen σ) 0 G.seats ≡ found p → record { refusal = NoChoice p; session = σ } ≡ play (fit G) σ
      unfolding play play_tests
      play_no_choice p c = rw (a, b, c) refl

      module _ (c : lowest (unchosen σ) 0 G.seats ≡ nowhere) where
        pub play_illegal : (p : ℕ) → lowest (illegal G σ) 0 G.seats ≡ found p → record { refusal = NotLegal p; session = σ } ≡ play (fit G) σ
        unfolding play play_tests
        play_illegal p d = rw (a, b, c, d) refl

        module _ (d : lowest (illegal G σ) 0 G.seats ≡ nowhere) where
          pub play_last : eqb σ.round 65535 ≡ true → record { refusal = LastRound; session = σ } ≡ play (fit G) σ
          unfolding play play_tests
          play_last e = rw (a, b, c, d, e) refl

          pub play_done : eqb σ.round 65535 ≡ false → record { refusal = Success; session = played G σ } ≡ play (fit G) σ
          unfolding play play_tests
          play_done e = rw (a, b, c, d, e) refl

-- ---- message

module _ (G : Game) (σ : Session) (z : ℕ) (room : List ℕ) where
  pub message_bad_shape : shaped G σ ≡ false → (record { refusal = BadShape; length = 0 }, room) ≡ message (fit G) σ z room
  unfolding message message_tests
  message_bad_shape a = rw a refl

  module _ (a : shaped G σ ≡ true) where
    pub message_no_seat : leb G.seats z ≡ true → (record { refusal = NoSuchSeat; length = 0 }, room) ≡ message (fit G) σ z room
    unfolding message message_tests
    message_no_seat b = rw (a, b) refl

    module _ (b : leb G.seats z ≡ false) where
      pub message_no_room : ltb (length room) 1024 ≡ true → (record { refusal = RoomTooShort; length = 0 }, room) ≡ message (fit G) σ z room
      unfolding message message_tests
      message_no_room c = rw (a, b, c) refl

      pub message_done : ltb (length room) 1024 ≡ false
          → (record { refusal = Success; length = length (message_bytes G σ z) }, message_bytes G σ z ++ drop (length (message_bytes G σ z)) room) ≡ message (fit G) σ z room
      unfolding message message_tests
      message_done c = rw (a, b, c) refl

-- ---- the model call

module _ (G : Game) (pos ch room : List ℕ) where
  pub model_bad_shape : (position_shaped G pos && choices_shaped G ch) ≡ false → (BadShape, room) ≡ truth (fit G) pos ch room
  unfolding truth model_tests
  model_bad_shape a = rw a refl

  module _ (a : (position_shaped G pos && choices_shaped G ch) ≡ true) where
    pub model_no_room : ltb (length room) (length G.atoms) ≡ true → (RoomTooShort, room) ≡ truth (fit G) pos ch room
    unfolding truth model_tests
    model_no_room b = rw (a, b) refl

    pub model_done : ltb (length room) (length G.atoms) ≡ false → (Success, moved G pos ch ++ drop (length G.atoms) room) ≡ truth (fit G) pos ch room
    unfolding truth model_tests
    model_done b = rw (a, b) refl

-- ---- hidden

module _ (G : Game) (asking moving m : ℕ) where
  pub hidden_no_asking : leb G.seats asking ≡ true → record { refusal = NoSuchSeat; hidden = 0 } ≡ hidden_from (fit G) asking moving m
  unfolding hidden_from hidden_tests
  hidden_no_asking a = rw a refl

  module _ (a : leb G.seats asking ≡ false) where
    pub hidden_no_moving : leb G.seats moving ≡ true → record { refusal = NoSuchSeat; hidden = 0 } ≡ hidden_from (fit G) asking moving m
    unfolding hidden_from hidden_tests
    hidden_no_moving b = rw (a, b) refl

    module _ (b : leb G.seats moving ≡ false) where
      pub hidden_no_move : leb G.moves m ≡ true → record { refusal = NoSuchMove; hidden = 0 } ≡ hidden_from (fit G) asking moving m
      unfolding hidden_from hidden_tests
      hidden_no_move c = rw (a, b, c) refl

      pub hidden_done : leb G.moves m ≡ false → record { refusal = Success; hidden = bit (hidden G asking moving m) } ≡ hidden_from (fit G) asking moving m
      unfolding hidden_from hidden_tests
      hidden_done c = rw (a, b, c) refl
