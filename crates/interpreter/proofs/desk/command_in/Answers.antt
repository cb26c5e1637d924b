-- The number of words is told against what the command takes.
use Rattle.interpreter.proofs.Answering.{missing_word, extra_word, all_words}
use Rattle.interpreter.proofs.desk.command_in.Goals as goal
use Rattle.interpreter.proofs.desk.command_in.Goals.{then-words-fewest-via-then-words-fewest, then-words-fewest-via-else-words-fewest+then-most-words}

pub returns-then-words-fewest : goal.returns-then-words-fewest
returns-then-words-fewest c =
    elim c.then-words-fewest.branch [
      | then-words-fewest-via-then-words-fewest w ↦
          missing_word _ _ c.well_spaced.ensures c.if-not-well_spaced.false _ c.word.ensures _ c.in-Some.ensures _ c.count_words-words.ensures _ c.words_behind-fewest.ensures w.if-words-fewest.true
      | then-words-fewest-via-else-words-fewest+then-most-words w ↦
          extra_word _ _ c.well_spaced.ensures c.if-not-well_spaced.false _ c.word.ensures _ c.in-Some.ensures _ c.count_words-words.ensures _ c.words_behind-fewest.ensures w.if-words-fewest.false w.if-most-words.true
    ]

pub returns : goal.returns
returns c =
    all_words _ _ c.well_spaced.ensures c.if-not-well_spaced.false _ c.word.ensures _ c.in-Some.ensures _ c.count_words-words.ensures _ c.words_behind-fewest.ensures c.if-words-fewest.false c.if-most-words.false
