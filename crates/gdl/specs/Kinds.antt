-- The number of each kind, as the page's table of kinds has it.
use Rattle.std.specs.Prelude.{ℕ}
use Rattle.gdl.specs.Game as G
use Rattle.gdl.specs.declared.kinds.Kind.{Kind}
use Rattle.gdl.specs.declared.kinds.Kind.TheVariants.{Plain, Role, Init, True, Does, Legal, Next, Sees, Terminal, Goal}

abbrev pub kind_number : Kind → ℕ
kind_number Plain = G.plain_kind
kind_number Role = G.role_kind
kind_number Init = G.init_kind
kind_number True = G.true_kind
kind_number Does = G.does_kind
kind_number Legal = G.legal_kind
kind_number Next = G.next_kind
kind_number Sees = G.sees_kind
kind_number Terminal = G.terminal_kind
kind_number Goal = G.goal_kind
