-- Whether other programs look for an address in a text.
use Rattle.std.specs.Prelude.{ℕ, Bool, true, false, not, ◌==◌, ◌&&◌, ◌||◌, if◌then◌else◌, List}
use Rattle.std.specs.List.{fold}
use Rattle.tocmark_read_scan.specs.Basic.{plus}
use Rattle.tocmark_bare_links.specs.Lines.{is_separator}
use Rattle.tocmark_bare_links.specs.declared.sign.Sign.{Sign}

-- a byte ends `://` or `www.`, at which programs look for an address
unfoldable pub is_sign : Sign → ℕ → Bool
is_sign s b =
    ((s.second == 58) && (s.third == 47) && (b == 47))
    || ((s.first == 119) && (s.second == 119) && (s.third == 119) && (b == 46))

-- one byte further: a separator begins another word
unfoldable pub sign_step : Sign → ℕ → Sign
sign_step s b = record {
  any = s.any || is_sign s b;
  word = not (is_separator b) && (s.word || is_sign s b);
  start = if is_separator b then plus s.place 1 else s.start;
  place = plus s.place 1;
  first = s.second;
  second = s.third;
  third = b;
}

-- before the first byte
abbrev pub sign_start : Sign
sign_start = record { any = false; word = false; start = 0; place = 0; first = 0; second = 0; third = 0 }

-- whether a text has one of them, and whether its last word does, and where that begins
unfoldable pub sign_of : List ℕ → Sign
sign_of text = fold sign_step sign_start text
