-- What the worked examples compute with, under two names: to unfold one is to unfold all that its line names.
use Rattle.numbers.specs.Number.{run_at, number_of_two, number_of_three, number_at}
use Rattle.numbers.specs.Writing.{number_bytes}
use Rattle.gdl.specs.Computed.{model, hidden}
use Rattle.table.specs.Parse.{bounded}
use Rattle.table.specs.Table.{players, sizes, header, first_bound, second_bound, field, atom, key, atoms_from, literals, clause, clauses_from, clauses, game, table}
use Rattle.rules.specs.Judged.{judge}
use Rattle.session.specs.Shape.{position_shaped, choices_shaped, percepts_shaped, shaped}
use Rattle.calls.specs.Position.{still, moved, over, legal, goal, opened, stored, played}
use Rattle.calls.specs.Message.{message_numbers, message_bytes}
use Rattle.calls.specs.Calls.{offer_tests, play_tests, message_tests, model_tests, hidden_tests, check, open_game, offer, play, truth, message, hidden_from}
use Rattle.secrecy.specs.Histories.{run, goes_on, rounds}

-- the verdict on a table
unfoldable pub verdicts : Unit {0}
unfolding judge table game players sizes header first_bound second_bound field atom key atoms_from literals clause clauses_from clauses bounded number_at run_at number_of_two number_of_three
verdicts = tt

-- the calls, and histories of them
unfoldable pub answers : Unit {0}
unfolding verdicts number_bytes position_shaped choices_shaped percepts_shaped shaped model hidden still moved over legal goal opened stored played message_numbers message_bytes offer_tests play_tests message_tests model_tests hidden_tests check open_game offer play truth message hidden_from run goes_on rounds
answers = tt
