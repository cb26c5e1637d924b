-- The published semantics of a game in the papers' letters: 001 Definition 6, 003 Definition 1.
use Rattle.std.specs.Prelude.{ℕ}
use Rattle.gdl.specs.Game.{Game, role_kind, init_kind, legal_kind, next_kind, sees_kind, terminal_kind, goal_kind}
use Rattle.gdl.specs.Truth.{State, empty_state, Joint, nobody, Entails}

-- "R = {r : G ⊨ role(r)}"
abbrev pub R : Game → ℕ → Type 0
R G r = Entails G empty_state nobody role_kind r 0

-- "s₁ = {f : G ⊨ init(f)}"
abbrev pub s₁ : Game → ℕ → Type 0
s₁ G f = Entails G empty_state nobody init_kind f 0

-- "t = {S : G ∪ S^true ⊨ terminal}"
abbrev pub t : Game → State → Type 0
t G S = Entails G S nobody terminal_kind 0 0

-- "l = {(r, m, S) : G ∪ S^true ⊨ legal(r, m)}"
abbrev pub l : Game → ℕ → ℕ → State → Type 0
l G r m S = Entails G S nobody legal_kind r m

-- "u(M, S) = {f : G ∪ M^does ∪ S^true ⊨ next(f)}"
abbrev pub u : Game → Joint → State → ℕ → Type 0
u G M S f = Entails G S M next_kind f 0

-- "𝓘 = {(r, M, S, p) : G ∪ M^does ∪ S^true ⊨ sees(r, p)}"
abbrev pub 𝓘 : Game → ℕ → Joint → State → ℕ → Type 0
𝓘 G r M S p = Entails G S M sees_kind r p

-- "g = {(r, n, S) : G ∪ S^true ⊨ goal(r, n)}"
abbrev pub g : Game → ℕ → ℕ → State → Type 0
g G r n S = Entails G S nobody goal_kind r n
