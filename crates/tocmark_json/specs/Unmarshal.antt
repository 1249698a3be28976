-- The events that Python's `marshal.dumps` of version 2 makes bytes of.
use Rattle.std.specs.Prelude.{◌≡◌, ◌==◌, ◌*◌, ◌-◌, ◌≤◌, ◌^◌, if◌then◌else◌, ℕ, zero, suc, List, [], ◌∷◌, drop, length, map, nat_lt, option_map, take, true, false, Option, None, Some}
use Rattle.std.specs.Int.{from_le_bytes, w32}
use Rattle.std.specs.Str.{is_utf8}
use Rattle.serde_json.specs.Data.{Data, Members, array, boolean, no_members, null, number, object, put, string, unsigned}
use Rattle.serde_json.specs.View.{items_of}
use Rattle.tocmark_event.specs.View.{EventView}
use Rattle.tocmark_json.specs.Elements.{Pair}
use Rattle.tocmark_json.specs.Json.{event_json}
use Rattle.tocmark_json.specs.declared.fault.Fault.{Fault}
use Rattle.tocmark_json.specs.declared.fault.Fault.TheVariants as fault
use Rattle.tocmark_json.specs.declared.fault.JsonError.{JsonError}
use Rattle.tocmark_json.specs.declared.fault.JsonError.TheVariants as error
use Rattle.tocmark_json.specs.declared.fault.ReadError.{ReadError}
use Rattle.tocmark_json.specs.declared.fault.ReadError.TheVariants as read_error

-- what bytes begin with, and those after it
abbrev pub Parse : Type 0 → Type 0
Parse A = List ℕ → Option (A × List ℕ)

abbrev pub parse_map : {A B : Type 0} → (A → B) → Option (A × List ℕ) → Option (B × List ℕ)
parse_map f r = option_map (λ p. (f p.0, p.1)) r

-- one thing, and then what its value asks for
abbrev pub and_then : {A B : Type 0} → Option (A × List ℕ) → (A → Parse B) → Option (B × List ℕ)
and_then None f = None
and_then (Some p) f = f p.0 p.1

abbrev pub byte : Parse ℕ
byte [] = None
byte (b ∷ bytes) = Some (b, bytes)

-- four bytes, the lowest first
unfoldable pub size : Parse ℕ
size bytes = if nat_lt (length bytes) 4 then None else Some (from_le_bytes w32 (take 4 bytes), drop 4 bytes)

-- so many bytes, if they are UTF-8
abbrev pub cut : ℕ → Parse (List ℕ)
cut n bytes =
    if nat_lt (length bytes) n then None
    else if is_utf8 (take n bytes) then Some (take n bytes, drop n bytes)
    else None

-- a length, and so many bytes
unfoldable pub text : Parse (List ℕ)
text bytes = and_then (size bytes) cut

-- a number that is not negative
unfoldable pub natural : Parse ℕ
natural bytes = and_then (size bytes) (λ n rest. if nat_lt n (2 ^ 31) then Some (n, rest) else None)

-- ---- values

-- what is after the letter of a value that has no others inside: `N`, `T`, `F`, `i` and a number, or `u` and a text
unfoldable pub plain : ℕ → Parse Data
plain letter bytes =
    if letter == 78 then Some (null, bytes)
    else if letter == 84 then Some (boolean true, bytes)
    else if letter == 70 then Some (boolean false, bytes)
    else if letter == 105 then parse_map (λ n. number (unsigned n)) (natural bytes)
    else if letter == 117 then parse_map string (text bytes)
    else None

-- so many, one after the other
unfoldable pub values : {A : Type 0} → Parse A → ℕ → Parse (List A)
values p zero bytes = Some ([], bytes)
values p (suc n) bytes = and_then (p bytes) (λ x rest. parse_map (λ xs. x ∷ xs) (values p n rest))

-- a key of a dictionary, or None at its end: `u` and a text, or `0`
abbrev pub key_by : ℕ → Parse (Option (List ℕ))
key_by letter bytes =
    if letter == 48 then Some (None, bytes)
    else if letter == 117 then parse_map (λ s. Some s) (text bytes)
    else None

unfoldable pub key : Parse (Option (List ℕ))
key bytes = and_then (byte bytes) key_by

-- the members of a dictionary over others; of a key that comes twice, the last value counts. The number bounds the
-- turns, and the count of the bytes is always enough
abbrev pub member_by : Parse Data → (Members → Parse Members) → Members → Option (List ℕ) → Parse Members
member_by p more found None bytes = Some (found, bytes)
member_by p more found (Some k) bytes = and_then (p bytes) (λ d. more (put k d found))

unfoldable pub members : Parse Data → ℕ → Members → Parse Members
members p zero found bytes = None
members p (suc n) found bytes = and_then (key bytes) (member_by p (members p n) found)

-- what is after the letter of a value: `[`, how many values, and these, or `{` and members
abbrev pub value_by : Parse (List Data) → Parse Members → ℕ → Parse Data
value_by list dict letter bytes =
    if letter == 91 then parse_map (λ ds. array (items_of ds)) (list bytes)
    else if letter == 123 then parse_map object (dict bytes)
    else plain letter bytes

abbrev pub counted : {A : Type 0} → Parse A → Parse (List A)
counted p bytes = and_then (size bytes) (values p)

abbrev pub dict : Parse Data → Parse Members
dict p bytes = members p (length bytes) no_members bytes

-- a value, with lists and dictionaries nested no deeper than the number
unfoldable pub value : ℕ → Parse Data
value zero bytes = and_then (byte bytes) (value_by (λ r. None) (λ r. None))
value (suc depth) bytes = and_then (byte bytes) (value_by (counted (value depth)) (dict (value depth)))

-- ---- events with their ranges

-- `N`, or `i` and a number
abbrev pub place_by : ℕ → Parse (Option ℕ)
place_by letter bytes =
    if letter == 78 then Some (None, bytes)
    else if letter == 105 then parse_map (λ n. Some n) (natural bytes)
    else None

unfoldable pub place : Parse (Option ℕ)
place bytes = and_then (byte bytes) place_by

-- where a range begins and ends, or `N` twice where there is none
abbrev pub range_of : Option ℕ → Option ℕ → Parse (Option (ℕ × ℕ))
range_of None None bytes = Some (None, bytes)
range_of (Some start) (Some end) bytes = Some (Some (start, end), bytes)
range_of a b bytes = None

unfoldable pub range : Parse (Option (ℕ × ℕ))
range bytes = and_then (place bytes) (λ start rest. and_then (place rest) (range_of start))

-- a range, and the value of its event
unfoldable pub placed : Parse (Option (ℕ × ℕ) × Data)
placed bytes = and_then (range bytes) (λ r rest. parse_map (λ d. (r, d)) (value 127 rest))

abbrev pub placed_json : Pair → Option (ℕ × ℕ) × Data
placed_json p = (p.1, event_json p.0)

-- `[`, and how many values there are
unfoldable pub list_length : Parse ℕ
list_length bytes = and_then (byte bytes) (λ letter rest. if letter == 91 then size rest else None)

-- the bytes are those of one list, which has three values for each event: where its range begins and ends, and the event
abbrev pub IsDumped : List ℕ → List Pair → Type 0
IsDumped bytes pairs =
    (first : List ℕ) × (list_length bytes ≡ Some (3 * length pairs, first))
    × (values placed (length pairs) first ≡ Some (map placed_json pairs, []))

-- no event with its range begins here
abbrev pub BeginsNone : List ℕ → Type 0
BeginsNone bytes = (p : Pair) (rest : List ℕ) → placed bytes ≡ Some (placed_json p, rest) → ⊥

-- another event is due and none begins here, or none is due and this is not the end
abbrev pub GoesWrong : ℕ → List ℕ → Type 0
GoesWrong zero bytes = bytes ≡ [] → ⊥
GoesWrong (suc n) bytes = BeginsNone bytes

-- why bytes are not those of events: they begin with no list of three values for each event, or after as many events
-- as the error says they go wrong
abbrev pub IsNoDump : List ℕ → JsonError → Type 0
IsNoDump bytes error.NotAnArray = (n : ℕ) (first : List ℕ) → list_length bytes ≡ Some (3 * n, first) → ⊥
IsNoDump bytes (error.Event at k w) =
    (n : ℕ) × (first : List ℕ) × (before : List Pair) × (rest : List ℕ) × (list_length bytes ≡ Some (3 * n, first))
    × (values placed at first ≡ Some (map placed_json before, rest)) × (at ≡ length before) × (at ≤ n) × GoesWrong (n - at) rest

-- the error of the fault at an event
abbrev pub dump_fault : ℕ → Fault → ReadError
dump_fault at (fault.Wanted k w) = read_error.NotEvents (error.Event at k w)
dump_fault at fault.OutOfMemory = read_error.OutOfMemory

abbrev pub IsDumpFault : List ℕ → ReadError → Type 0
IsDumpFault bytes read_error.NotJson = ⊥
IsDumpFault bytes (read_error.NotEvents e) = IsNoDump bytes e
IsDumpFault bytes read_error.OutOfMemory = Unit {0}

-- nothing is read, or memory ran out
abbrev pub Lacks : {A : Type 0} → Option A → Fault → Type 0
Lacks found (fault.Wanted k w) = found ≡ None
Lacks found fault.OutOfMemory = Unit {0}

abbrev pub RefusesPlaced : List ℕ → Fault → Type 0
RefusesPlaced bytes (fault.Wanted k w) = BeginsNone bytes
RefusesPlaced bytes fault.OutOfMemory = Unit {0}
