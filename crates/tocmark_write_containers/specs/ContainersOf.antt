-- What the fields of the open containers mean, and what is true of them.
use Rattle.std.specs.Prelude.{◌≡◌, ℕ, ◌+◌, ◌≤◌, List, ◌++◌, IfSome, length, reverse, string_bytes, string_capacity, take, vec_capacity}
use Rattle.std.specs.Option.{option_map}
use Rattle.tocmark_spelling.specs.Page.{prefix_of}
use Rattle.tocmark_write_containers.specs.KeptOf.{original, outside_at, present, seen}
use Rattle.tocmark_write_containers.specs.Nesting.{Nesting}
use Rattle.tocmark_write_containers.specs.Outside.{outsides}
use Rattle.tocmark_write_containers.specs.declared.containers.Containers.TheInside.{Inside}
use Rattle.tocmark_write_containers.specs.declared.kept.Kept.{Kept}

-- the containers of the mark, the outermost first: those that have stayed open, and those that were closed since
abbrev pub marked : Inside → ℕ → List Kept
marked a n = take n a.frames.items ++ reverse a.closed.items

-- the open containers, and the notes taken back from them
abbrev pub nesting_of : Inside → Nesting
nesting_of a = record {
  path = seen present a.frames.items;
  at_mark = option_map (λ n. seen original (marked a n)) a.kept;
}

-- what the mark needs: the containers that were closed since find room again, and so does the joined prefix that they had;
-- and each said what the containers around it said
pub record Fits (a : Inside) (n : ℕ) : Type 0 where
  pub stayed : n ≤ length a.frames.items
  pub room : n + length a.closed.items ≤ vec_capacity a.frames
  pub prefix_room : length (prefix_of (seen original (marked a n))) ≤ string_capacity a.prefix
  pub told : seen outside_at (marked a n) ≡ outsides (seen original (marked a n))

-- the prefix is that of the open containers, each says what the containers around it say, and what the mark needs is there
pub record IsNoted (a : Inside) : Type 0 where
  pub prefix_is : string_bytes a.prefix ≡ prefix_of (seen present a.frames.items)
  pub told : seen outside_at a.frames.items ≡ outsides (seen present a.frames.items)
  pub fits : IfSome a.kept (λ n. Fits a n)
