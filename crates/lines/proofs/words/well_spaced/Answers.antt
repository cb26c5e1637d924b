-- Each part between the blanks is tested.
use Rattle.std.proofs.Common.{rules, tests, sym, ap, ◌∙◌}
use Rattle.std.proofs.lemmas.Iterator.Search.{all_from_yields_List}
use Rattle.std.proofs.lemmas.Iterator.Splits.{YieldsList-from_slice_split}
use Rattle.std.specs.List.{slice_split}
use Rattle.lines.specs.Words.{none_empty}
use Rattle.lines.proofs.Splitting.{is_blank, is_some_word, words_split, none_empty_all}
use Rattle.lines.proofs.words.well_spaced.Goals as goal

pub returns : goal.returns
returns c =
    all_from_yields_List is_some_word _ _ _ c.all.ensures.ran (YieldsList-from_slice_split _ is_blank c.args.line.now c.split.ensures.rest c.split.ensures.done c.split.ensures.closure (λ x b q k. search (rules, tests))) (λ x b q k. search (rules, tests)) ∙
    sym (none_empty_all (slice_split is_blank c.args.line.now)) ∙ ap none_empty (sym (words_split c.args.line.now))
