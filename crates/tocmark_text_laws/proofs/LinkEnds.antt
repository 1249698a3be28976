-- Links and images end after the bracket that closes their text, within the leaf's text.
use Rattle.std.proofs.Common.{◌≡◌, ℕ, ◌+◌, ◌-◌, ◌^◌, ◌<◌, ◌≤◌, Bool, true, false, not, ◌==◌, ◌&&◌, if◌then◌else◌, List, [], ◌∷◌, length, drop, codes, refl, ap, sym, subst, ◌∙◌, arith}
use Rattle.std.proofs.lemmas.Bool.Decides.{nat_tests}
use Rattle.std.specs.Prelude.{Option, Some, None}
use Rattle.tocmark_event.specs.declared.event.LinkType.TheVariants.{Collapsed, Shortcut}
use Rattle.tocmark_read_scan.specs.Basic.{plus, byte_at, bytes_between, starts_at}
use Rattle.tocmark_read_scan.specs.Class.{run_end}
use Rattle.tocmark_read_scan.specs.declared.class.Class.{Class}
use Rattle.tocmark_read_scan.specs.declared.class.Class.TheVariants.{White}
use Rattle.tocmark_read_spans.specs.Link.{begins_title, inline_title, inline_end, target_ended, target_titled, target_with, target_from, inline_target, own_label, own_from, own_asked, asked_or, label_asked}
use Rattle.tocmark_read_spans.specs.declared.link.Asked.{Asked}
use Rattle.tocmark_read_spans.specs.declared.link.Bracket.{Bracket}
use Rattle.tocmark_read_spans.specs.declared.link.InlineTarget.{InlineTarget}
use Rattle.tocmark_read_tokens.specs.Word.{ends_enclosed, escapes, enclosed_end, enclosed, closing_of, ends_bare, depth_after, bare, word, bare_word, word_to, enclosed_word, destination, enclosure_of, title_in, title, is_label_text, label_to, label_from, label}
use Rattle.tocmark_read_tokens.specs.declared.word.Enclosure.{Enclosure}
use Rattle.tocmark_read_tokens.specs.declared.word.Enclosure.TheVariants.{Angled, Bracketed}
use Rattle.tocmark_read_tokens.specs.declared.word.Word.{Word}
use Rattle.tocmark_text_laws.proofs.Tokens.{byte_within, run_climbs, run_few, empty_brackets}

-- a place that isn't before another one
pub record Climbs (q r : ℕ) : Type 0 where
  pub up : q ≤ r
  pub low : r < 2 ^ 64

pub climbed : (q r s : ℕ) → Climbs q r → Climbs r s → Climbs q s
climbed q r s a b = record { up = (let x : q ≤ r = a.up in let y : r ≤ s = b.up in omega arith); low = b.low }

pub to_run : (t : List ℕ) (q : ℕ) (c : Class) → q < 2 ^ 64 → Climbs q (run_end t q c)
to_run t q c h = record { up = run_climbs t q c (omega arith); low = let w : run_end t q c ≤ 2 ^ 64 - 1 = run_few t q c in omega arith }

pub to_next : (q : ℕ) → q < 2 ^ 64 → Climbs q (plus q 1)
to_next q h = record { up = omega arith; low = omega arith }

-- a word that is there, if one is, doesn't end before a place
abbrev MayClimb : ℕ → Option Word → Type 0
MayClimb q None = Unit
MayClimb q (Some w) = Climbs q w.next

may_later : (q r : ℕ) (o : Option Word) → Climbs q r → MayClimb r o → MayClimb q o
may_later q r None c h = tt
may_later q r (Some w) c h = climbed q r w.next c h

enclosed_climbs : (kind : Enclosure) (x : Bool) (place : ℕ) (bs : List ℕ) → place < 2 ^ 64 → Climbs place (enclosed_end kind x place bs)
enclosed_climbs kind x place [] h = record { up = omega arith; low = h }
enclosed_climbs kind x place (b ∷ bs) h = by (enclosed_climbs kind (escapes x b) (plus place 1) bs (omega arith)) (ends_enclosed kind x b)
  where
    by : Climbs (plus place 1) (enclosed_end kind (escapes x b) (plus place 1) bs) → (z : Bool) → Climbs place (if z then place else enclosed_end kind (escapes x b) (plus place 1) bs)
    by later true = record { up = omega arith; low = h }
    by later false = climbed place (plus place 1) (enclosed_end kind (escapes x b) (plus place 1) bs) (to_next place h) later

bare_climbs : (depth : ℕ) (x : Bool) (place : ℕ) (bs : List ℕ) → place < 2 ^ 64 → Climbs place ((bare depth x place bs).1)
bare_climbs depth x place [] h = record { up = omega arith; low = h }
bare_climbs depth x place (b ∷ bs) h = by (bare_climbs (depth_after depth x b) (escapes x b) (plus place 1) bs (omega arith)) (ends_bare depth x b)
  where
    by : Climbs (plus place 1) ((bare (depth_after depth x b) (escapes x b) (plus place 1) bs).1) → (z : Bool) → Climbs place ((if z then (depth, place) else bare (depth_after depth x b) (escapes x b) (plus place 1) bs).1)
    by later true = record { up = omega arith; low = h }
    by later false = climbed place (plus place 1) ((bare (depth_after depth x b) (escapes x b) (plus place 1) bs).1) (to_next place h) later

enclosed_word_climbs : (t : List ℕ) (place : ℕ) (kind : Enclosure) → place < 2 ^ 64 → MayClimb place (enclosed_word t place kind)
unfolding enclosed_word enclosed
enclosed_word_climbs t place kind h = by (byte_at t end == closing_of kind)
  where
    end : ℕ
    end = enclosed_end kind false (plus place 1) (drop (plus place 1) t)

    first : Climbs (plus place 1) end
    first = enclosed_climbs kind false (plus place 1) (drop (plus place 1) t) (omega arith)

    by : (z : Bool) → MayClimb place (word_to (plus place 1) (if z then Some end else None))
    by true = climbed place (plus place 1) (plus end 1) (to_next place h) (climbed (plus place 1) end (plus end 1) first (to_next end first.low))
    by false = tt

destination_climbs : (t : List ℕ) (place : ℕ) → place < 2 ^ 64 → MayClimb place (destination t place)
unfolding destination bare_word
destination_climbs t place h = by (byte_at t place == 60) ((bare 0 false place (drop place t)).0 == 0)
  where
    by : (x y : Bool) → MayClimb place (if x then enclosed_word t place Angled else (if y then Some (word place ((bare 0 false place (drop place t)).1) ((bare 0 false place (drop place t)).1)) else None))
    by true y = enclosed_word_climbs t place Angled h
    by false true = bare_climbs 0 false place (drop place t) h
    by false false = tt

title_climbs : (t : List ℕ) (place : ℕ) → place < 2 ^ 64 → MayClimb place (title t place)
unfolding title
title_climbs t place h = by (enclosure_of (byte_at t place))
  where
    by : (o : Option Enclosure) → MayClimb place (title_in t place o)
    by None = tt
    by (Some kind) = enclosed_word_climbs t place kind h

inline_title_climbs : (t : List ℕ) (place : ℕ) → place < 2 ^ 64 → MayClimb place (inline_title t place)
unfolding inline_title
inline_title_climbs t place h = by (not (run_end t place White == place) && begins_title (byte_at t (run_end t place White)))
  where
    by : (z : Bool) → MayClimb place (if z then title t (run_end t place White) else Some (word place place place))
    by true = let c : Climbs place (run_end t place White) = to_run t place White h in may_later place (run_end t place White) (title t (run_end t place White)) c (title_climbs t (run_end t place White) c.low)
    by false = record { up = omega arith; low = h }

-- an end just after a byte that closes
pub record Ended (t : List ℕ) (p end : ℕ) : Type 0 where
  pub after : p < end
  pub within : end ≤ length t
  pub closes : byte_at t (end - 1) < 128

pub ended_at : (t : List ℕ) (p at b : ℕ) → length t < 2 ^ 64 - 1 → byte_at t at ≡ b → (b == 10) ≡ false → b < 128 → p ≤ at → Ended t p (plus at 1)
ended_at t p at b short e n l m = let w : at < length t = byte_within t at b e n in let q : plus at 1 - 1 ≡ at = omega arith in record { after = omega arith; within = omega arith; closes = subst (λ x. byte_at t x < 128) (sym q) (omega arith) }

abbrev pub MayEnd : List ℕ → ℕ → Option InlineTarget → Type 0
MayEnd t p None = Unit
MayEnd t p (Some found) = Ended t p found.end

pub inline_ends : (t : List ℕ) (q : ℕ) → length t < 2 ^ 64 - 1 → q < 2 ^ 64 → MayEnd t q (inline_target t q)
unfolding inline_target target_from inline_end
inline_ends t q short h = by (byte_at t q == 40)
  where
    first : ℕ
    first = run_end t (plus q 1) White

    begun : Climbs q first
    begun = climbed q (plus q 1) first (to_next q h) (to_run t (plus q 1) White (omega arith))

    ended : (d x : Word) → Climbs q x.next → (z : Bool) → (byte_at t (run_end t x.next White) == 41) ≡ z → MayEnd t q (target_ended d x (if z then Some (plus (run_end t x.next White) 1) else None))
    ended d x c true e = let k : Climbs q (run_end t x.next White) = climbed q x.next (run_end t x.next White) c (to_run t x.next White c.low) in ended_at t q (run_end t x.next White) 41 short (grind (arith, nat_tests)) refl (omega arith) k.up
    ended d x c false e = tt

    titled : (d : Word) (o : Option Word) → MayClimb q o → MayEnd t q (target_titled t d o)
    titled d None c = tt
    titled d (Some x) c = ended d x c (byte_at t (run_end t x.next White) == 41) refl

    with_destination : (o : Option Word) → MayClimb q o → MayEnd t q (target_with t o)
    with_destination None c = tt
    with_destination (Some d) c = titled d (inline_title t d.next) (may_later q d.next (inline_title t d.next) c (inline_title_climbs t d.next c.low))

    by : (z : Bool) → MayEnd t q (if z then target_with t (destination t first) else None)
    by true = with_destination (destination t first) (may_later q first (destination t first) begun (destination_climbs t first begun.low))
    by false = tt

abbrev LabelEnds : List ℕ → ℕ → Option Word → Type 0
LabelEnds t p None = Unit
LabelEnds t p (Some w) = Ended t p w.next

label_ends : (t : List ℕ) (q : ℕ) → length t < 2 ^ 64 - 1 → q < 2 ^ 64 → LabelEnds t q (label t q)
unfolding label label_from enclosed closing_of
label_ends t q short h = by (byte_at t q == 91) (byte_at t end == 93) refl
  where
    end : ℕ
    end = enclosed_end Bracketed false (plus q 1) (drop (plus q 1) t)

    there : Climbs q end
    there = climbed q (plus q 1) end (to_next q h) (enclosed_climbs Bracketed false (plus q 1) (drop (plus q 1) t) (omega arith))

    of : (z : Bool) → byte_at t end ≡ 93 → LabelEnds t q (if z then Some (word (plus q 1) end (plus end 1)) else None)
    of true e = ended_at t q end 93 short e refl (omega arith) there.up
    of false e = tt

    by : (x y : Bool) → (byte_at t end == 93) ≡ y → LabelEnds t q (if x then label_to t (plus q 1) (if y then Some end else None) else None)
    by true true e = of (is_label_text (bytes_between t (plus q 1) end)) (grind (arith, nat_tests))
    by true false e = tt
    by false y e = tt

abbrev pub AskedEnds : List ℕ → ℕ → Option Asked → Type 0
AskedEnds t p None = Unit
AskedEnds t p (Some a) = Ended t p a.end

own_ends : (t : List ℕ) (p : ℕ) (o : Option Word) → length t < 2 ^ 64 - 1 → p < length t → byte_at t p ≡ 93 → AskedEnds t p (own_from t p o)
own_ends t p None short w e = tt
own_ends t p (Some l) short w e = by (starts_at t (plus p 1) (codes "[]")) refl
  where
    one : plus p 1 + 1 ≡ p + 2
    one = omega arith

    by : (z : Bool) → starts_at t (plus p 1) (codes "[]") ≡ z → AskedEnds t p (if z then Some (record { link_type = Collapsed; label = l; end = plus p 3 }) else Some (record { link_type = Shortcut; label = l; end = plus p 1 }))
    by true k =
        let c : byte_at t (p + 2) ≡ 93 = ap (byte_at t) (sym one) ∙ empty_brackets t (plus p 1) k in
        let q : plus (p + 2) 1 ≡ plus p 3 = omega arith in
        subst (Ended t p) q (ended_at t p (p + 2) 93 short c refl (omega arith) (omega arith))
    by false k = ended_at t p p 93 short e refl (omega arith) (omega arith)

pub asked_ends : (t : List ℕ) (b : Bracket) (p : ℕ) → length t < 2 ^ 64 - 1 → p < length t → byte_at t p ≡ 93 → AskedEnds t p (label_asked t b p)
unfolding label_asked own_asked
asked_ends t b p short w e = by (label t (plus p 1)) (label_ends t (plus p 1) short (omega arith))
  where
    by : (o : Option Word) → LabelEnds t (plus p 1) o → AskedEnds t p (asked_or t b p o)
    by None c = own_ends t p (own_label t b p) short w e
    by (Some l) c = let a : plus p 1 < l.next = c.after in record { after = omega arith; within = c.within; closes = c.closes }
