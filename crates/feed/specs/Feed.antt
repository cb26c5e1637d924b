-- What a feed of lines says of its room, and what it finds there.
use Rattle.std.specs.Prelude.{ℕ, suc, ◌+◌, ◌≤◌, Bool, true, false, List, [], ◌∷◌, eqb, ltb, if◌then◌else◌}
use Rattle.feed.specs.declared.Feed.{Feed}
use Rattle.feed.specs.declared.Found.{Found}
use Rattle.feed.specs.declared.Found.TheVariants.{Line, Long, Nothing, More}

pub record Held (room : ℕ) (f : Feed) : Type 0 where
  pub order : f.start ≤ f.end
  pub read : f.end ≤ f.have
  pub within : f.have ≤ room

-- how many bytes stand before the first line end
abbrev pub until_end : List ℕ → ℕ
until_end [] = 0
until_end (b ∷ bs) = if eqb b 10 then 0 else suc (until_end bs)

-- what a line is that has ended, by whether its beginning was dropped
abbrev pub told : Bool → Found
told true = Long
told false = Line

-- what is left when the input has ended: a line without its end, or nothing
abbrev pub told_last : ℕ → Bool → Found
told_last left true = Long
told_last left false = if eqb left 0 then Nothing else Line

-- nothing was found yet in what stands from a place on
abbrev pub seeking : ℕ → ℕ → Feed
seeking place have = record { found = More; start = place; end = place; have = have; long = false }

abbrev pub new_feed : Feed
new_feed = seeking 0 0

-- behind the end of the line that was found
unfoldable pub behind : Feed → Feed
behind f = seeking (if ltb f.end f.have then f.end + 1 else f.end) f.have
