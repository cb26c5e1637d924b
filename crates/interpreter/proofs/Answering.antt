-- Laws of the answer to a line: one for each return.
use Prim.Native.Nat.{ℕ, ◌-◌, ◌≤◌, ◌<◌}
use mathlib.Core.Path.{◌≡◌, refl, sym, ap, ◌∙◌}
use mathlib.Core.Bool.{Bool, true, false}
use mathlib.Core.List.{List, []}
use lib.ListN.{length, take}
use borrow.Author.Tests.{le-leb, lt-leb, lt-ltb, le-ltb}
use Rattle.std.specs.Prelude.{Some, None, Result, Ok, Err, IsErrAnd}
use Rattle.rules.specs.Judged.{judge}
use Rattle.calls.specs.Calls.{claim}
use Rattle.lines.specs.Words.{words_of, none_empty}
use Rattle.lines.specs.Hex.{hex_into}
use Rattle.feed.specs.declared.Found.{Found}
use Rattle.feed.specs.declared.Found.TheVariants.{Line, Long, Nothing, More}
use Rattle.commands.specs.Texts.{puts}
use Rattle.commands.specs.Commands.{command_of, fewest, most}
use Rattle.commands.specs.Faults.{error_texts}
use Rattle.commands.specs.Numbers.{word_at}
use Rattle.commands.specs.Replies.{ok_texts, help_texts}
use Rattle.commands.specs.declared.command.Command.{Command}
use Rattle.commands.specs.declared.command.Command.TheVariants as C
use Rattle.commands.specs.declared.fault.Fault.{Fault}
use Rattle.commands.specs.declared.fault.Fault.TheVariants as F
use Rattle.interpreter.specs.Said.{Texts, said, Says, Tries}
use Rattle.interpreter.specs.Looks.{CheckSaid, claim_texts, message_texts, HiddenSaid, ModelSaid}
use Rattle.interpreter.specs.Turns.{Turn, turned, wrong, open_turn, offer_turn, play_turn, record_turn, Turns}
use Rattle.interpreter.specs.Tables.{accepted, take_of, hex_size, file_size, TableLoads}
use Rattle.interpreter.specs.Desk.{command_in, with_length, with_record, taken, Kept, TurnedTo, TakenTo, Meant, LineMeant, FoundMeant, Answers, AnswersOr}
use Rattle.interpreter.specs.declared.desk.Desk.{Desk}
use Rattle.interpreter.specs.declared.desk.Answered.{Answered}
use Rattle.interpreter.specs.declared.records.Turned.{Turned}
use Rattle.interpreter.proofs.Saying.{says}

-- ---- what is wrong with a line

module _ (line : List ℕ) (s : Bool) (es : s ≡ none_empty (words_of line)) where
  pub wrong_blanks : s ≡ false → Err F.Blanks ≡ command_in line
  unfolding command_in
  wrong_blanks h = rw (sym es ∙ h) refl

  module _ (h : s ≡ true) (w : List ℕ) (ew : w ≡ word_at line 0) where
    pub wrong_command : None ≡ command_of w → Err F.Command ≡ command_in line
    unfolding command_in
    wrong_command k = rw (sym es ∙ h, ← ew, ← k) refl

    module _ (c : Command) (k : Some c ≡ command_of w) (n : ℕ) (en : n ≡ length (words_of line)) (p : ℕ × ℕ) (ep : p ≡ (fewest c, most c)) where
      pub missing_word : n ≤ p.0 → Err F.Words ≡ command_in line
      unfolding command_in
      missing_word l = rw (sym es ∙ h, ← ew, ← k, ← en, le-leb n (fewest c) (rw ep at l)) refl

      module _ (l : p.0 < n) where
        pub extra_word : p.1 < n - 1 → Err F.Words ≡ command_in line
        unfolding command_in
        extra_word m = rw (sym es ∙ h, ← ew, ← k, ← en, lt-leb n (fewest c) (rw ep at l), lt-ltb (most c) (n - 1) (rw ep at m)) refl

        pub all_words : n - 1 ≤ p.1 → Ok c ≡ command_in line
        unfolding command_in
        all_words m = rw (sym es ∙ h, ← ew, ← k, ← en, lt-leb n (fewest c) (rw ep at l), le-ltb (most c) (n - 1) (rw ep at m)) refl

pub ruleset faulting = (wrong_blanks, wrong_command, missing_word, extra_word, all_words)

-- ---- how an answer changes what is current

module _ (table : List ℕ) (desk : Desk) (room after : List ℕ) (r : Answered) where
  kept_says : (M : Texts → Type 0) (n : ℕ) → r ≡ with_length desk n → Says M room (n, after) → Answers (Kept M table desk) room r table after
  kept_says M n e s = record {
    texts = s.texts;
    meant = record { meant = s.meant; desk_stays = ap (λ (a : Answered). a.desk) e; table_stays = refl };
    puts = rw e s.puts;
  }

  kept_said : (t : Texts) (n : ℕ) → r ≡ with_length desk n → (n, after) ≡ said t room → Answers (Kept (λ u. u ≡ t) table desk) room r table after
  kept_said t n e s = kept_says (λ u. u ≡ t) n e (record { texts = t; meant = refl; puts = s })

  turns_to : (t : Turn) (m : Turned) → r ≡ with_record desk m → (m, after) ≡ turned t room → Answers (TurnedTo t table desk) room r table after
  unfolding turned
  turns_to t m e s =
      let sess : m.session ≡ t.session = ap (λ (x : Turned × List ℕ). x.0.session) s in
      record {
        texts = t.texts;
        meant = record { texts = refl; record_turns = rw (e, sess) refl; table_stays = refl };
        puts = rw e (ap (λ (x : Turned × List ℕ). (x.0.length, x.1)) s);
      }

module _ (table : List ℕ) (desk : Desk) (room after : List ℕ) where
  turn_fails : (t : Turn) (f : Fault) → (t ≡ wrong f desk.session) × (after ≡ room) → TurnedTo t table desk (error_texts f) desk table × (after ≡ room)
  turn_fails t f s = (record { texts = ap (λ (u : Turn). u.texts) (sym s.0); record_turns = rw s.0 refl; table_stays = refl }, s.1)

  look_fails : (M : Texts → Type 0) (f : Fault) → M (error_texts f) × (after ≡ room) → Kept M table desk (error_texts f) desk table × (after ≡ room)
  look_fails M f s = (record { meant = s.0; desk_stays = refl; table_stays = refl }, s.1)

-- the table is taken, or was not
module _ (desk : Desk) (room after : List ℕ) where
  pub took : (size n : ℕ) → (n, after) ≡ puts (ok_texts size) (0, room) → ◌≡◌ {A = Answered × List ℕ} (record { desk = record { table = size; session = desk.session }; length = n }, after) (taken desk (accepted size) room)
  unfolding taken said
  took size n e = rw (← e) refl

  takes_to : (held : List ℕ) (h : Result ℕ Fault) (size : ℕ) (r : Answered) → Ok size ≡ h → (r, after) ≡ taken desk (accepted size) room → Answers (TakenTo (take_of desk.table h) held desk) room r held after
  unfolding taken
  takes_to held h size r e s =
      rw (← e) (record {
        texts = ok_texts size;
        meant = record { texts = refl; table_turns = ap (λ (x : Answered × List ℕ). x.0.desk) s; table_holds = refl };
        puts = ap (λ (x : Answered × List ℕ). (x.0.length, x.1)) s;
      })

  take_fails : (held : List ℕ) (h : Result ℕ Fault) (f : Fault) → Err f ≡ h → TakenTo (take_of desk.table h) held desk (error_texts f) desk held
  take_fails held h f e = rw (← e) (record { texts = refl; table_turns = refl; table_holds = refl })

-- what a `?` hands on is the fault
pub at_fault : (M : Texts → Desk → List ℕ → Type 0) (desk : Desk) (room held after : List ℕ) (x : Result Answered Fault) (f : Fault) → IsErrAnd x (λ e. e ≡ f) → M (error_texts f) desk held × (after ≡ room) → AnswersOr M desk room x held after
at_fault M desk room held after (Ok r) f e m = absurd e
at_fault M desk room held after (Err g) f e m = rw e m

-- ---- the commands

module _ (line table : List ℕ) (desk : Desk) (room after : List ℕ) (c : Command) where
  module _ (e : c ≡ C.Table) (w : List ℕ) (ew : w ≡ word_at line 1) (held : List ℕ) (eh : held ≡ (hex_into w table).1) where
    pub answers_table : (size : ℕ) → Ok size ≡ hex_size (hex_into w table).0 → (r : Answered) → (r, after) ≡ taken desk (accepted size) room → Answers (Meant line c table desk) room r held after
    answers_table size es r s = rw (e, ← ew, ← eh) (takes_to desk room after held (hex_size (hex_into w table).0) size r es s)

    pub fails_table : (f : Fault) → Err f ≡ hex_size (hex_into w table).0 → Meant line c table desk (error_texts f) desk held × (room ≡ room)
    fails_table f ef = (rw (e, ← ew, ← eh) (take_fails desk room after held (hex_size (hex_into w table).0) f ef), refl)

  module _ (e : c ≡ C.Load) (held : List ℕ) where
    pub answers_load : (size : ℕ) → TableLoads table held (Ok size) → (r : Answered) → (r, after) ≡ taken desk (accepted size) room → Answers (Meant line c table desk) room r held after
    answers_load size l r s =
        let a = takes_to desk room after held (file_size l.given) size r l.tells s in
        rw e (record { texts = a.texts; meant = record { given = l.given; promised = l.promised; takes = a.meant }; puts = a.puts })

    pub fails_load : (f : Fault) → TableLoads table held (Err f) → Meant line c table desk (error_texts f) desk held × (room ≡ room)
    fails_load f l = (rw e (record { given = l.given; promised = l.promised; takes = take_fails desk room after held (file_size l.given) f l.tells }), refl)

  pub fails_record : c ≡ C.Record → (f : Fault) → Turns (record_turn line desk.session) desk.session room (Err f) after → Meant line c table desk (error_texts f) desk table × (after ≡ room)
  fails_record e f s = rw e (turn_fails table desk room after (record_turn line desk.session) f s)

  module _ (on : List ℕ) (eo : on ≡ take desk.table table) (f : Fault) where
    pub fails_message : c ≡ C.Message → Tries (λ t. t ≡ message_texts line (judge on) desk.session) room (Err f) after → Meant line c table desk (error_texts f) desk table × (after ≡ room)
    fails_message e s = rw (e, ← eo) (look_fails table desk room after (λ t. t ≡ message_texts line (judge on) desk.session) f s)

    pub fails_hidden : c ≡ C.Hidden → Tries (HiddenSaid line (judge on)) room (Err f) after → Meant line c table desk (error_texts f) desk table × (after ≡ room)
    fails_hidden e s = rw (e, ← eo) (look_fails table desk room after (HiddenSaid line (judge on)) f s)

    pub fails_model : c ≡ C.Model → Tries (ModelSaid line (judge on)) room (Err f) after → Meant line c table desk (error_texts f) desk table × (after ≡ room)
    fails_model e s = rw (e, ← eo) (look_fails table desk room after (ModelSaid line (judge on)) f s)

    pub fails_offer : c ≡ C.Offer → Turns (offer_turn line (judge on) desk.session) desk.session room (Err f) after → Meant line c table desk (error_texts f) desk table × (after ≡ room)
    fails_offer e s = rw (e, ← eo) (turn_fails table desk room after (offer_turn line (judge on) desk.session) f s)

module _ (line table : List ℕ) (desk : Desk) (room after : List ℕ) (r : Answered) (c : Command) where
  pub answers_record : c ≡ C.Record → (m : Turned) → r ≡ with_record desk m → Turns (record_turn line desk.session) desk.session room (Ok m) after → Answers (Meant line c table desk) room r table after
  answers_record e m er s = rw e (turns_to table desk room after r (record_turn line desk.session) m er s)

  pub answers_help : c ≡ C.Help → (n : ℕ) → r ≡ with_length desk n → (n, after) ≡ puts help_texts (0, room) → Answers (Meant line c table desk) room r table after
  answers_help e n er s = rw e (kept_said table desk room after r help_texts n er (says room (n, after) help_texts s))

  module _ (on : List ℕ) (eo : on ≡ take desk.table table) where
    pub answers_check : c ≡ C.Check → (n : ℕ) → r ≡ with_length desk n → Says (CheckSaid on) room (n, after) → Answers (Meant line c table desk) room r table after
    answers_check e n er s = rw (e, ← eo) (kept_says table desk room after r (CheckSaid on) n er s)

    pub answers_claim : c ≡ C.Claim → (n : ℕ) → r ≡ with_length desk n → (n, after) ≡ said (claim_texts (claim (judge on))) room → Answers (Meant line c table desk) room r table after
    answers_claim e n er s = rw (e, ← eo) (kept_said table desk room after r (claim_texts (claim (judge on))) n er s)

    pub answers_message : c ≡ C.Message → (n : ℕ) → r ≡ with_length desk n → Tries (λ t. t ≡ message_texts line (judge on) desk.session) room (Ok n) after → Answers (Meant line c table desk) room r table after
    answers_message e n er s = rw (e, ← eo) (kept_says table desk room after r (λ t. t ≡ message_texts line (judge on) desk.session) n er s)

    pub answers_hidden : c ≡ C.Hidden → (n : ℕ) → r ≡ with_length desk n → Tries (HiddenSaid line (judge on)) room (Ok n) after → Answers (Meant line c table desk) room r table after
    answers_hidden e n er s = rw (e, ← eo) (kept_says table desk room after r (HiddenSaid line (judge on)) n er s)

    pub answers_model : c ≡ C.Model → (n : ℕ) → r ≡ with_length desk n → Tries (ModelSaid line (judge on)) room (Ok n) after → Answers (Meant line c table desk) room r table after
    answers_model e n er s = rw (e, ← eo) (kept_says table desk room after r (ModelSaid line (judge on)) n er s)

    module _ (m : Turned) (er : r ≡ with_record desk m) where
      pub answers_open : c ≡ C.Open → (m, after) ≡ turned (open_turn (judge on)) room → Answers (Meant line c table desk) room r table after
      answers_open e s = rw (e, ← eo) (turns_to table desk room after r (open_turn (judge on)) m er s)

      pub answers_offer : c ≡ C.Offer → Turns (offer_turn line (judge on) desk.session) desk.session room (Ok m) after → Answers (Meant line c table desk) room r table after
      answers_offer e s = rw (e, ← eo) (turns_to table desk room after r (offer_turn line (judge on) desk.session) m er s)

      pub answers_play : c ≡ C.Play → (m, after) ≡ turned (play_turn (judge on) desk.session) room → Answers (Meant line c table desk) room r table after
      answers_play e s = rw (e, ← eo) (turns_to table desk room after r (play_turn (judge on) desk.session) m er s)

pub ruleset answerings = (answers_table, fails_table, answers_load, fails_load, answers_record, fails_record, answers_help, answers_check, answers_claim, answers_message, fails_message, answers_hidden, fails_hidden, answers_model, fails_model, answers_open, answers_offer, fails_offer, answers_play)

-- ---- a line, and what was found

module _ (line table : List ℕ) (desk : Desk) (room : List ℕ) where
  pub line_wrong : (f : Fault) → Err f ≡ command_in line → LineMeant line table desk (error_texts f) desk table × (room ≡ room)
  unfolding LineMeant
  line_wrong f e = (rw (← e) (record { meant = refl; desk_stays = refl; table_stays = refl }), refl)

  pub line_right : (c : Command) → Ok c ≡ command_in line → (x : Result Answered Fault) (held after : List ℕ) → AnswersOr (Meant line c table desk) desk room x held after → AnswersOr (LineMeant line table desk) desk room x held after
  unfolding LineMeant
  line_right c e x held after a = rw (← e) a

-- the fault is told
pub fault_told : (M : Texts → Desk → List ℕ → Type 0) (desk : Desk) (room held now after : List ℕ) (f : Fault) → AnswersOr M desk room (Err f) held now → (n : ℕ) (r : Answered) → r ≡ with_length desk n → (n, after) ≡ puts (error_texts f) (0, now)
    → Answers M room r held after
fault_told M desk room held now after f m n r er s = rw er (record { texts = error_texts f; meant = m.0; puts = says room (n, after) (error_texts f) (rw m.1 at s) })

module _ (line table : List ℕ) (desk : Desk) (room after : List ℕ) (r : Answered) (f : Found) where
  pub found_line : f ≡ Line → (held : List ℕ) → Answers (LineMeant line table desk) room r held after → Answers (FoundMeant f line table desk) room r held after
  found_line e held a = rw e a

  pub found_long : f ≡ Long → (n : ℕ) → r ≡ with_length desk n → (n, after) ≡ puts (error_texts F.LongLine) (0, room) → Answers (FoundMeant f line table desk) room r table after
  found_long e n er s = rw e (kept_said table desk room after r (error_texts F.LongLine) n er (says room (n, after) (error_texts F.LongLine) s))

module _ (line table : List ℕ) (desk : Desk) (room : List ℕ) (r : Answered) (f : Found) (er : r ≡ with_length desk 0) where
  silent : (0, room) ≡ said [] room
  unfolding said puts
  silent = refl

  pub found_nothing : f ≡ Nothing → Answers (FoundMeant f line table desk) room r table room
  found_nothing e = rw e (kept_said table desk room room r [] 0 er silent)

  pub found_more : f ≡ More → Answers (FoundMeant f line table desk) room r table room
  found_more e = rw e (kept_said table desk room room r [] 0 er silent)

pub ruleset linings = (line_wrong, line_right, fault_told, found_line, found_long, found_nothing, found_more)
