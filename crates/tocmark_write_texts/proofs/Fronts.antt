-- Texts that begin with what was there, and escaped stretches as texts.
use Rattle.std.proofs.Common.{◌≡◌, ℕ, ◌≤◌, List, [], ◌∷◌, ◌++◌, true, length, length-append, append-nil, take, chars, IsUtf8, encode_utf8, encode_utf8_all, refl, sym, ap, ◌∙◌, subst, arith}
use Rattle.std.specs.Str.{all_scalars}
use Rattle.std.proofs.lemmas.Bool.{and_parts}
use Rattle.std.proofs.lemmas.List.{get_or_append_left, take_at, take-append-le}
use Rattle.std.proofs.lemmas.Str.{IsCharBoundary-at_seam, IsUtf8-append, IsUtf8-encode, IsUtf8-nil, scalars-chars}
use lib.Utf8.{scalar}
use Rattle.tocmark_write_texts.specs.Escape.{Surroundings, escape_after, escaped}
use Rattle.tocmark_write_texts.specs.Texts.{Begins}
use Rattle.tocmark_write_texts.proofs.TextLaws.{scalars-escape_after}

-- a front of a text and what is written after it begins with that text
pub begins : (old now rest piece : List ℕ) → now ++ rest ≡ old ++ piece → length old ≤ length now → IsUtf8 piece → Begins old now
begins old now rest piece e l u =
    let seam = IsCharBoundary-at_seam (now ++ rest) old piece e u in (
      (
        l,
        λ some inside high.
            subst (λ b. 192 ≤ b) (get_or_append_left now rest 0 (length old) inside)
            (seam.1 (omega (arith, length-append now rest)) (subst (λ b. 128 ≤ b) (sym (get_or_append_left now rest 0 (length old) inside)) high)),
      ),
      sym (take-append-le (length old) now rest l) ∙ ap (take (length old)) e ∙ take_at old piece (length old) refl,
    )

IsUtf8-encodes : (cs : List ℕ) → all_scalars cs ≡ true → IsUtf8 (encode_utf8_all cs)
IsUtf8-encodes [] h = IsUtf8-nil
IsUtf8-encodes (c ∷ cs) h =
    let parts = and_parts (scalar c) (all_scalars cs) h in
    IsUtf8-append (encode_utf8 c) (encode_utf8_all cs) (IsUtf8-encode c parts.0) (IsUtf8-encodes cs parts.1)

-- an escaped text is one
pub escaped-utf8 : (p : Surroundings) (text : List ℕ) → IsUtf8 text → IsUtf8 (escaped p text)
unfolding escaped
escaped-utf8 p text u =
    IsUtf8-encodes (escape_after p [] (chars text)) (scalars-escape_after p [] (chars text) (scalars-chars text u))

-- the same where the last part could not be written
pub begins-still : (old now same rest piece : List ℕ) → same ≡ now → now ++ rest ≡ old ++ piece → length old ≤ length now → IsUtf8 piece → Begins old same
begins-still old now same rest piece s e l u = subst (Begins old) (sym s) (begins old now rest piece e l u)

-- and where all is written
pub begins-whole : (old now piece : List ℕ) → now ≡ old ++ piece → IsUtf8 piece → Begins old now
begins-whole old now piece e u =
    begins old now [] piece (append-nil now ∙ e) (omega (arith, ap length e, length-append old piece)) u

-- what has grown is no shorter
pub longer : (front old new piece : List ℕ) → length front ≤ length old → new ≡ old ++ piece → length front ≤ length new
longer front old new piece l e = omega (arith, ap length e, length-append old piece)
