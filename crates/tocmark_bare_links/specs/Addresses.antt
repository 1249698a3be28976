-- Web and mail addresses without angle brackets (GFM 6.9, "extended autolinks").
use Rattle.std.specs.Prelude.{ℕ, Bool, true, false, not, ◌-◌, ◌==◌, ◌&&◌, ◌||◌, min, nat_lt, nat_le, if◌then◌else◌, List, [], ◌∷◌, length, take_while, Option, Some, None}
use Rattle.std.specs.List.{fold}
use Rattle.std.specs.Char.{is_ascii_alphabetic, is_ascii_alphanumeric}
use Rattle.tocmark_read_scan.specs.Basic.{plus, byte_at, bytes_between, starts_at}
use Rattle.tocmark_read_scan.specs.Class.{run_end}
use Rattle.tocmark_read_scan.specs.declared.class.Class.TheVariants.{Domain}
use Rattle.tocmark_bare_links.specs.declared.trail.Trail.{Trail}
use Rattle.tocmark_bare_links.specs.declared.host.Host.{Host}
use Rattle.tocmark_bare_links.specs.declared.address.Kind.{Kind}
use Rattle.tocmark_bare_links.specs.declared.address.Kind.TheVariants.{Web, Named, Mail}
use Rattle.tocmark_bare_links.specs.declared.address.Address.{Address}

-- ---- where an address ends

-- one of ! " ' * , . : ? _ ~
unfoldable pub is_trailing : ℕ → Bool
is_trailing b = (b == 33) || (b == 34) || (b == 39) || (b == 42) || (b == 44) || (b == 46) || (b == 58) || (b == 63) || (b == 95) || (b == 126)

-- one more, if a byte is the one that is counted
unfoldable pub counted : ℕ → ℕ → ℕ → ℕ
counted one b n = if b == one then plus n 1 else n

-- the length of the front of a reference, `&` and letters; 0 if there is none
unfoldable pub name_after : ℕ → ℕ → ℕ
name_after n b = if b == 38 then 1 else if is_ascii_alphabetic b && not (n == 0) then plus n 1 else 0

-- how many bytes are left if no more follow: punctuation is taken off, and so are a `)` without its `(`, and a reference
unfoldable pub kept_after : Trail → ℕ → ℕ
kept_after t b =
    if is_trailing b then t.kept
    else if b == 41 then (if nat_lt t.closed t.opened then plus t.length 1 else t.kept)
    else if b == 59 then (if nat_le 2 t.name then t.before else t.kept)
    else plus t.length 1

-- one byte further
unfoldable pub trail_step : Trail → ℕ → Trail
trail_step t b = record {
  length = plus t.length 1;
  kept = kept_after t b;
  opened = counted 40 b t.opened;
  closed = counted 41 b t.closed;
  before = if b == 38 then t.kept else t.before;
  name = name_after t.name b;
}

-- before the first byte
abbrev pub trail_start : Trail
trail_start = record { length = 0; kept = 0; opened = 0; closed = 0; before = 0; name = 0 }

-- how many bytes of a word are left
unfoldable pub kept_length : List ℕ → ℕ
kept_length word = (fold trail_step trail_start word).kept

-- ---- hosts

-- a label may end here: it isn't empty, and a hyphen is at neither end
unfoldable pub is_label : Host → Bool
is_label h = h.fine && nat_le 1 h.length && not h.hyphen

-- one byte further: a dot ends a label
unfoldable pub host_step : Host → ℕ → Host
host_step h b =
    if b == 46 then record { length = 0; hyphen = false; dotted = true; fine = is_label h }
    else record { length = plus h.length 1; hyphen = b == 45; dotted = h.dotted; fine = h.fine && not ((h.length == 0) && (b == 45)) }

-- before the first byte
abbrev pub host_start : Host
host_start = record { length = 0; hyphen = false; dotted = false; fine = true }

-- labels with dots between: two at least, or one alone
unfoldable pub is_host : Bool → List ℕ → Bool
is_host is_short text = let h = fold host_step host_start text in is_label h && (is_short || h.dotted)

-- what may come after a host: no `_`, no backslash, and no letter past ASCII
unfoldable pub may_follow : ℕ → Bool
may_follow b = nat_lt b 128 && not (b == 95) && not (b == 92)

-- ---- addresses at the front of a word

-- the length of an address whose host is at a place, and may be one label
unfoldable pub web_length : Bool → List ℕ → ℕ → Option ℕ
web_length is_short word place =
    let end = kept_length word in
    let last = run_end word place Domain in
    if may_follow (byte_at word last) && is_host is_short (bytes_between word place (min last end)) then Some end else None

-- a byte of a mail address before the `@`
unfoldable pub is_local : ℕ → Bool
is_local b = is_ascii_alphanumeric b || (b == 46) || (b == 45) || (b == 95) || (b == 43)

-- how many of them are at the front
unfoldable pub local_length : List ℕ → ℕ
local_length word = length (take_while is_local word)

-- a host from a place to an end is all that is left, and a letter is last
unfoldable pub is_mail_host : List ℕ → ℕ → ℕ → Bool
is_mail_host word place end =
    let last = run_end word place Domain in
    may_follow (byte_at word last) && nat_le end last && is_host false (bytes_between word place end) && is_ascii_alphabetic (byte_at word (end - 1))

-- the length of a mail address
unfoldable pub mail_length : List ℕ → Option ℕ
mail_length word =
    let local = local_length word in
    let end = kept_length word in
    if not (local == 0) && (byte_at word local == 64) && is_mail_host word (plus local 1) end then Some end else None

-- an address of a kind, if there is one
abbrev pub of_kind : Kind → Option ℕ → Option Address
of_kind kind None = None
of_kind kind (Some length) = Some (record { kind = kind; length = length })

-- "https://"
abbrev pub https : List ℕ
https = 104 ∷ 116 ∷ 116 ∷ 112 ∷ 115 ∷ 58 ∷ 47 ∷ 47 ∷ []

-- "http://"
abbrev pub http : List ℕ
http = 104 ∷ 116 ∷ 116 ∷ 112 ∷ 58 ∷ 47 ∷ 47 ∷ []

-- "ftp://"
abbrev pub ftp : List ℕ
ftp = 102 ∷ 116 ∷ 112 ∷ 58 ∷ 47 ∷ 47 ∷ []

-- "www."
abbrev pub www : List ℕ
www = 119 ∷ 119 ∷ 119 ∷ 46 ∷ []

-- a web address may be at a place: a scheme is there, or `www.`
unfoldable pub has_scheme : List ℕ → ℕ → Bool
has_scheme word place = starts_at word place https || starts_at word place http || starts_at word place ftp || starts_at word place www

-- "://"
abbrev pub slashes : List ℕ
slashes = 58 ∷ 47 ∷ 47 ∷ []

-- programs look for an address at a place: `://` is there, or `www.`
unfoldable pub is_sign : List ℕ → ℕ → Bool
is_sign text place = starts_at text place slashes || starts_at text place www

-- the mail address that a word begins with
abbrev pub mail_address : List ℕ → Option Address
mail_address word = of_kind Mail (mail_length word)

-- the web address that a word begins with
unfoldable pub web_address : List ℕ → Option Address
web_address word =
    if starts_at word 0 https then of_kind Web (web_length true word 8)
    else if starts_at word 0 http then of_kind Web (web_length true word 7)
    else if starts_at word 0 ftp then of_kind Web (web_length true word 6)
    else if starts_at word 0 www then of_kind Named (web_length false word 4)
    else None
