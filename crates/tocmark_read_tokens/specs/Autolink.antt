-- Addresses between angle brackets (CommonMark 6.5).
use Rattle.std.specs.Prelude.{ℕ, Bool, true, false, not, ◌-◌, ◌==◌, ◌&&◌, nat_le, if◌then◌else◌, List, fold, Option, Some, None}
use Rattle.std.specs.Char.{is_ascii_alphabetic}
use Rattle.tocmark_read_scan.specs.Basic.{plus, byte_at, bytes_between}
use Rattle.tocmark_read_scan.specs.Class.{run_end}
use Rattle.tocmark_read_scan.specs.declared.class.Class.TheVariants as class
use Rattle.tocmark_read_tokens.specs.declared.autolink.Domain.{Domain}

-- the place after the bracket that closes an address
unfoldable pub closed_at : List ℕ → ℕ → Option ℕ
closed_at bytes place = if byte_at bytes place == 62 then Some (plus place 1) else None

-- a scheme of 2 to 32 bytes, with a colon after it
unfoldable pub is_scheme : List ℕ → ℕ → ℕ → Bool
is_scheme bytes start end =
    nat_le 2 (end - start) && nat_le (end - start) 32 && is_ascii_alphabetic (byte_at bytes start) && (byte_at bytes end == 58)

-- the place after an address with a scheme
unfoldable pub uri_end : List ℕ → ℕ → Option ℕ
uri_end bytes place =
    let start = plus place 1 in
    let end = run_end bytes start class.Scheme in
    if is_scheme bytes start end then closed_at bytes (run_end bytes end class.Address) else None

-- a label of 1 to 63 bytes may end here, after no hyphen
unfoldable pub is_label_end : Domain → Bool
is_label_end d = d.fine && nat_le 1 d.length && nat_le d.length 63 && not d.hyphen

-- one byte further in a domain
unfoldable pub domain_step : Domain → ℕ → Domain
domain_step d b =
    if b == 46 then record { length = 0; hyphen = false; fine = is_label_end d }
    else record { length = plus d.length 1; hyphen = b == 45; fine = d.fine && not ((d.length == 0) && (b == 45)) }

-- before the first byte of a domain
abbrev pub domain_start : Domain
domain_start = record { length = 0; hyphen = false; fine = true }

-- labels with dots between
unfoldable pub is_domain : List ℕ → Bool
is_domain text = is_label_end (fold domain_step domain_start text)

-- the place after a domain and its bracket
unfoldable pub domain_end : List ℕ → ℕ → Option ℕ
domain_end bytes start =
    let end = run_end bytes start class.Domain in
    if is_domain (bytes_between bytes start end) then closed_at bytes end else None

-- the place after a mail address
unfoldable pub mail_end : List ℕ → ℕ → Option ℕ
mail_end bytes place =
    let start = plus place 1 in
    let end = run_end bytes start class.Mailbox in
    if not (end == start) && (byte_at bytes end == 64) then domain_end bytes (plus end 1) else None
