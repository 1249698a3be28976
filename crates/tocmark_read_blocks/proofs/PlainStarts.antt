-- Lines whose first byte begins no block.
use Rattle.std.proofs.Common.{◌≡◌, ℕ, suc, ◌+◌, false, ◌==◌, nat_le, List, ◌∷◌, length, refl, arith, None}
use Rattle.std.proofs.lemmas.Bool.Decides.{nat_tests}
use Rattle.std.specs.Char.{is_ascii_digit}
use Rattle.tocmark_read_lines.specs.Cells.{first_cursor}
use Rattle.tocmark_read_lines.specs.Marks.{is_rule, is_rule_byte, marker_at, bullet_at, ordered_at, heading_at, is_behind, fence_at, is_fence_byte, underline_at, is_underline_byte, tail_of}
use Rattle.tocmark_read_blocks.proofs.PlainLines.{numbered}
use Rattle.tocmark_read_blocks.proofs.PlainSteps.{BeginsNothing, front}

-- a byte that no block begins with
pub record IsQuiet (b : ℕ) : Type 0 where
  pub space : (b == 32) ≡ false
  pub greater : (b == 62) ≡ false
  pub less : (b == 60) ≡ false
  pub star : (b == 42) ≡ false
  pub minus : (b == 45) ≡ false
  pub plus : (b == 43) ≡ false
  pub equals : (b == 61) ≡ false
  pub underscore : (b == 95) ≡ false
  pub hash : (b == 35) ≡ false
  pub backtick : (b == 96) ≡ false
  pub tilde : (b == 126) ≡ false
  pub digit : is_ascii_digit b ≡ false

pub some_cells : (n : ℕ) → nat_le (suc n) 0 ≡ false
some_cells n = grind (arith, nat_tests)

no_marker : (at b : ℕ) (bs : List ℕ) → IsQuiet b → marker_at (numbered at (b ∷ bs)) 0 ≡ None
unfolding marker_at bullet_at ordered_at
no_marker at b bs h = rw (h.minus, h.plus, h.star, h.digit) refl

pub no_heading : (at b : ℕ) (bs : List ℕ) → (b == 35) ≡ false → (b == 32) ≡ false → heading_at (numbered at (b ∷ bs)) 0 ≡ None
unfolding heading_at is_behind
no_heading at b bs h k = rw (h, k, some_cells (length (numbered (at + 1) bs))) refl

pub no_fence : (at b : ℕ) (bs : List ℕ) → (b == 96) ≡ false → (b == 126) ≡ false → fence_at (numbered at (b ∷ bs)) front ≡ None
unfolding fence_at is_fence_byte
no_fence at b bs h k = rw (h, k) refl

pub no_underline : (at b : ℕ) (bs : List ℕ) → (b == 61) ≡ false → (b == 45) ≡ false → underline_at (numbered at (b ∷ bs)) 0 ≡ None
unfolding underline_at is_underline_byte
no_underline at b bs h k = rw (h, k) refl

no_rule : (at b : ℕ) (bs : List ℕ) → IsQuiet b → is_rule (numbered at (b ∷ bs)) (tail_of (numbered at (b ∷ bs))) 0 ≡ false
unfolding is_rule is_rule_byte
no_rule at b bs h = rw (h.star, h.minus, h.underscore) refl

-- a line with such a byte in front begins no block
pub quiet_begins_nothing : (at b : ℕ) (bs : List ℕ) → IsQuiet b → BeginsNothing (b ∷ bs) (numbered at (b ∷ bs))
unfolding first_cursor
quiet_begins_nothing at b bs h = record {
  some = some_cells (length (numbered (at + 1) bs));
  ink = rw h.space refl;
  quote = h.greater;
  rule = no_rule at b bs h;
  marker = no_marker at b bs h;
  heading = no_heading at b bs h.hash h.space;
  fence = no_fence at b bs h.backtick h.tilde;
  html = h.less;
  underline = no_underline at b bs h.equals h.minus;
}
