-- The byte form of a record: its fields in their order, little endian, 512 + 16 + 2,048 + 4 = 2,580 bytes.
use Rattle.std.specs.Prelude.{◌≡◌, cond, Option, Some, None, List, [], ◌∷◌, ◌++◌, ℕ, zero, suc, ◌+◌, ◌*◌, ◌/◌, ◌%◌, ◌<◌, eqb, length, get_or, take, drop}
use Rattle.session.specs.declared.Session.{Session}

-- a number in so many bytes, the lowest first, and back
abbrev pub little_endian : ℕ → ℕ → List ℕ
little_endian zero x = []
little_endian (suc n) x = x % 256 ∷ little_endian n (x / 256)

abbrev pub from_little_endian : List ℕ → ℕ
from_little_endian [] = 0
from_little_endian (b ∷ bs) = b + 256 * from_little_endian bs

-- numbers of two bytes each, and back
abbrev pub pairs_of : List ℕ → List ℕ
pairs_of [] = []
pairs_of (x ∷ xs) = little_endian 2 x ++ pairs_of xs

abbrev pub from_pairs : ℕ → List ℕ → List ℕ
from_pairs zero bs = []
from_pairs (suc n) bs = from_little_endian (take 2 bs) ∷ from_pairs n (drop 2 bs)

unfoldable pub session_bytes : Session → List ℕ
session_bytes σ = σ.position ++ pairs_of σ.choices ++ σ.percepts ++ little_endian 4 σ.round

unfoldable pub session_of : List ℕ → Session
session_of bs = record {
  position = take 512 bs;
  choices = from_pairs 8 (drop 512 bs);
  percepts = take 2048 (drop 528 bs);
  round = from_little_endian (take 4 (drop 2576 bs));
}

-- what bytes say, however many: a record if there are 2,580, and else none
unfoldable pub read_of : List ℕ → Option Session
read_of bs = cond (eqb (length bs) 2580) (Some (session_of bs)) None

-- numbers below a bound
pub record Within (bound : ℕ) (l : List ℕ) : Type 0 where
  pub each : (i : ℕ) → get_or l i 0 < bound

-- a record whose fields fit their types
pub record Fits (σ : Session) : Type 0 where
  pub fluents : length σ.position ≡ 512
  pub seats : length σ.choices ≡ 8
  pub seen : length σ.percepts ≡ 2048
  pub position : Within 256 σ.position
  pub choices : Within 65536 σ.choices
  pub percepts : Within 256 σ.percepts
  pub round : σ.round < 4294967296
