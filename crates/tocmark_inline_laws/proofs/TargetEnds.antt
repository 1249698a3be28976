-- Where links and images end.
use Rattle.std.proofs.Common.{◌≡◌, ℕ, suc, ◌+◌, ◌^◌, ◌<◌, ◌≤◌, Bool, true, false, not, ◌==◌, ◌&&◌, nat_lt, if◌then◌else◌, List, [], ◌∷◌, length, drop, codes, refl, ap, sym, subst, ◌∙◌, arith, true≢false}
use Rattle.std.proofs.lemmas.Bool.Decides.{nat_tests}
use Rattle.std.specs.Prelude.{Option, Some, None}
use Rattle.tocmark_event.specs.declared.event.LinkType.TheVariants.{Reference, Collapsed, Shortcut}
use Rattle.tocmark_read_scan.specs.Basic.{plus, byte_at, bytes_between, starts_at}
use Rattle.tocmark_read_scan.specs.Class.{run_end}
use Rattle.tocmark_read_scan.specs.declared.class.Class.TheVariants.{White}
use Rattle.tocmark_read_scan.proofs.PlainPlaces.{byte_dropped}
use Rattle.tocmark_read_scan.proofs.PlainTests.{eq_of}
use Rattle.tocmark_read_spans.specs.Link.{begins_title, inline_title, inline_end, target_ended, target_titled, target_with, target_from, inline_target, ending_at, own_from}
use Rattle.tocmark_read_spans.specs.declared.link.Asked.{Asked}
use Rattle.tocmark_read_spans.specs.declared.link.InlineTarget.{InlineTarget}
use Rattle.tocmark_read_tokens.specs.Word.{ends_enclosed, escapes, enclosed_end, enclosed, closing_of, ends_bare, depth_after, bare, word, bare_word, word_to, enclosed_word, destination, enclosure_of, title_in, title, is_label_text, label_to, label_from, label}
use Rattle.tocmark_read_tokens.specs.declared.word.Enclosure.{Enclosure}
use Rattle.tocmark_read_tokens.specs.declared.word.Enclosure.TheVariants.{Angled, Bracketed}
use Rattle.tocmark_read_tokens.specs.declared.word.Word.{Word}
use Rattle.tocmark_commonmark.specs.InlineTree.{Bracket}
use Rattle.tocmark_commonmark.specs.Links.{asked}
use Rattle.tocmark_inline_laws.proofs.Ampersands.{Here, starts_here, some_none, same_some}
use Rattle.tocmark_inline_laws.proofs.Phases.{Passes, passes_by, bracket_from}
use Rattle.tocmark_inline_laws.proofs.Places.{clean_after, past_end}
use Rattle.tocmark_inline_laws.proofs.Plains.{drop_more}
use Rattle.tocmark_inline_laws.proofs.Sim.{Clean}
use Rattle.tocmark_inline_laws.proofs.TagEnds.{Climbs, climbed, run_climbs, one_climbs}

-- a byte that ends a link
record Closes (bytes : List ℕ) (p end : ℕ) : Type 0 where
  at : ℕ
  byte : ℕ
  is : byte_at bytes at ≡ byte
  end_is : end ≡ plus at 1
  behind : p ≤ at
  calm : ((byte == 32) ≡ false) × ((byte == 92) ≡ false) × ((byte == 10) ≡ false)

sooner : (bytes : List ℕ) (p q end : ℕ) → p ≤ q → Closes bytes q end → Closes bytes p end
sooner bytes p q end l c = record { at = c.at; byte = c.byte; is = c.is; end_is = c.end_is; behind = (let b : q ≤ c.at = c.behind in omega arith); calm = c.calm }

enclosed_climbs : (kind : Enclosure) (x : Bool) (place : ℕ) (bs : List ℕ) → place < 2 ^ 64 → Climbs place (enclosed_end kind x place bs)
enclosed_climbs kind x place [] h = record { up = omega arith; low = h }
enclosed_climbs kind x place (b ∷ bs) h = by (enclosed_climbs kind (escapes x b) (plus place 1) bs (omega arith)) (ends_enclosed kind x b)
  where
    by : Climbs (plus place 1) (enclosed_end kind (escapes x b) (plus place 1) bs) → (z : Bool) → Climbs place (if z then place else enclosed_end kind (escapes x b) (plus place 1) bs)
    by later true = record { up = omega arith; low = h }
    by later false = climbed place (plus place 1) (enclosed_end kind (escapes x b) (plus place 1) bs) (one_climbs place h) later

bare_climbs : (depth : ℕ) (x : Bool) (place : ℕ) (bs : List ℕ) → place < 2 ^ 64 → Climbs place ((bare depth x place bs).1)
bare_climbs depth x place [] h = record { up = omega arith; low = h }
bare_climbs depth x place (b ∷ bs) h = by (bare_climbs (depth_after depth x b) (escapes x b) (plus place 1) bs (omega arith)) (ends_bare depth x b)
  where
    by : Climbs (plus place 1) ((bare (depth_after depth x b) (escapes x b) (plus place 1) bs).1) → (z : Bool) → Climbs place ((if z then (depth, place) else bare (depth_after depth x b) (escapes x b) (plus place 1) bs).1)
    by later true = record { up = omega arith; low = h }
    by later false = climbed place (plus place 1) ((bare (depth_after depth x b) (escapes x b) (plus place 1) bs).1) (one_climbs place h) later

next_is : (w v : Word) (q : ℕ) → Some w ≡ Some v → Climbs q w.next → Climbs q v.next
next_is w v q e c = subst (λ n. Climbs q n) (ap (λ (x : Word). x.next) (same_some w v e)) c

enclosed_word_climbs : (bytes : List ℕ) (place : ℕ) (kind : Enclosure) (w : Word) → place < 2 ^ 64 → enclosed_word bytes place kind ≡ Some w → Climbs place w.next
unfolding enclosed_word enclosed
enclosed_word_climbs bytes place kind w h e = by (byte_at bytes end == closing) e
  where
    end : ℕ
    end = enclosed_end kind false (plus place 1) (drop (plus place 1) bytes)

    closing : ℕ
    closing = closing_of kind

    there : Climbs place (plus end 1)
    there = climbed place end (plus end 1) (climbed place (plus place 1) end (one_climbs place h) (enclosed_climbs kind false (plus place 1) (drop (plus place 1) bytes) (omega arith))) (one_climbs end (enclosed_climbs kind false (plus place 1) (drop (plus place 1) bytes) (omega arith)).low)

    by : (z : Bool) → word_to (plus place 1) (if z then Some end else None) ≡ Some w → Climbs place w.next
    by true k = next_is (word (plus place 1) end (plus end 1)) w place k there
    by false k = absurd (some_none w (sym k))

destination_climbs : (bytes : List ℕ) (place : ℕ) (w : Word) → place < 2 ^ 64 → destination bytes place ≡ Some w → Climbs place w.next
unfolding destination bare_word
destination_climbs bytes place w h e = by (byte_at bytes place == 60) ((bare 0 false place (drop place bytes)).0 == 0) e
  where
    by : (x y : Bool) → (if x then enclosed_word bytes place Angled else (if y then Some (word place ((bare 0 false place (drop place bytes)).1) ((bare 0 false place (drop place bytes)).1)) else None)) ≡ Some w → Climbs place w.next
    by true y k = enclosed_word_climbs bytes place Angled w h k
    by false true k = next_is (word place ((bare 0 false place (drop place bytes)).1) ((bare 0 false place (drop place bytes)).1)) w place k (bare_climbs 0 false place (drop place bytes) h)
    by false false k = absurd (some_none w (sym k))

title_climbs : (bytes : List ℕ) (place : ℕ) (w : Word) → place < 2 ^ 64 → title bytes place ≡ Some w → Climbs place w.next
unfolding title
title_climbs bytes place w h e = by (enclosure_of (byte_at bytes place)) e
  where
    by : (o : Option Enclosure) → title_in bytes place o ≡ Some w → Climbs place w.next
    by None k = absurd (some_none w (sym k))
    by (Some kind) k = enclosed_word_climbs bytes place kind w h k

inline_title_climbs : (bytes : List ℕ) (place : ℕ) (w : Word) → place < 2 ^ 64 → inline_title bytes place ≡ Some w → Climbs place w.next
unfolding inline_title
inline_title_climbs bytes place w h e = by (not (run_end bytes place White == place) && begins_title (byte_at bytes (run_end bytes place White))) e
  where
    there : Climbs place (run_end bytes place White)
    there = run_climbs bytes place White h

    by : (z : Bool) → (if z then title bytes (run_end bytes place White) else Some (word place place place)) ≡ Some w → Climbs place w.next
    by true k = climbed place (run_end bytes place White) w.next there (title_climbs bytes (run_end bytes place White) w there.low k)
    by false k = next_is (word place place place) w place k (record { up = omega arith; low = h })

inline_closes : (bytes : List ℕ) (q : ℕ) (found : InlineTarget) → q < 2 ^ 64 → inline_target bytes q ≡ Some found → Closes bytes q found.end
unfolding inline_target target_from inline_end
inline_closes bytes q found h e = by (byte_at bytes q == 40) e
  where
    begun : Climbs q (run_end bytes (plus q 1) White)
    begun = climbed q (plus q 1) (run_end bytes (plus q 1) White) (one_climbs q h) (run_climbs bytes (plus q 1) White (omega arith))

    ended : (d t : Word) (r : ℕ) → Climbs q r → (z : Bool) → (byte_at bytes (run_end bytes r White) == 41) ≡ z → target_ended d t (if z then Some (plus (run_end bytes r White) 1) else None) ≡ Some found → Closes bytes q found.end
    ended d t r c true is k = record {
      at = run_end bytes r White;
      byte = 41;
      is = eq_of (byte_at bytes (run_end bytes r White)) 41 is;
      end_is = ap (λ (x : InlineTarget). x.end) (same_some found (record { destination = d; title = t; end = plus (run_end bytes r White) 1 }) (sym k));
      behind = (climbed q r (run_end bytes r White) c (run_climbs bytes r White c.low)).up;
      calm = (refl, refl, refl);
    }
    ended d t r c false is k = absurd (some_none found (sym k))

    titled : (d : Word) → Climbs q d.next → (o : Option Word) → inline_title bytes d.next ≡ o → target_titled bytes d o ≡ Some found → Closes bytes q found.end
    titled d c None is k = absurd (some_none found (sym k))
    titled d c (Some t) is k = ended d t t.next (climbed q d.next t.next c (inline_title_climbs bytes d.next t c.low is)) (byte_at bytes (run_end bytes t.next White) == 41) refl k

    with_destination : (o : Option Word) → destination bytes (run_end bytes (plus q 1) White) ≡ o → target_with bytes o ≡ Some found → Closes bytes q found.end
    with_destination None is k = absurd (some_none found (sym k))
    with_destination (Some d) is k = titled d (climbed q (run_end bytes (plus q 1) White) d.next begun (destination_climbs bytes (run_end bytes (plus q 1) White) d begun.low is)) (inline_title bytes d.next) refl k

    by : (z : Bool) → (if z then target_with bytes (destination bytes (run_end bytes (plus q 1) White)) else None) ≡ Some found → Closes bytes q found.end
    by true k = with_destination (destination bytes (run_end bytes (plus q 1) White)) refl k
    by false k = absurd (some_none found (sym k))

label_closes : (bytes : List ℕ) (q : ℕ) (l : Word) → q < 2 ^ 64 → label bytes q ≡ Some l → Closes bytes q l.next
unfolding label label_from enclosed closing_of
label_closes bytes q l h e = by (byte_at bytes q == 91) (byte_at bytes end == 93) refl e
  where
    end : ℕ
    end = bracket_from bytes false (plus q 1)

    there : Climbs q end
    there = climbed q (plus q 1) end (one_climbs q h) (enclosed_climbs Bracketed false (plus q 1) (drop (plus q 1) bytes) (omega arith))

    of : (z : Bool) → (byte_at bytes end == 93) ≡ true → (if z then Some (word (plus q 1) end (plus end 1)) else None) ≡ Some l → Closes bytes q l.next
    of true is k = record {
      at = end;
      byte = 93;
      is = eq_of (byte_at bytes end) 93 is;
      end_is = ap (λ (x : Word). x.next) (same_some l (word (plus q 1) end (plus end 1)) (sym k));
      behind = there.up;
      calm = (refl, refl, refl);
    }
    of false is k = absurd (some_none l (sym k))

    by : (x y : Bool) → (byte_at bytes end == 93) ≡ y → (if x then label_to bytes (plus q 1) (if y then Some end else None) else None) ≡ Some l → Closes bytes q l.next
    by true true is k = of (is_label_text (bytes_between bytes (plus q 1) end)) is k
    by true false is k = absurd (some_none l (sym k))
    by false y is k = absurd (some_none l (sym k))

own_closes : (bytes : List ℕ) (p : ℕ) (o : Option Word) (a : Asked) → p < length bytes → length bytes + 2 < 2 ^ 64 → byte_at bytes p ≡ 93 → own_from bytes p o ≡ Some a → Closes bytes p a.end
own_closes bytes p None a inner fits is e = absurd (some_none a (sym e))
own_closes bytes p (Some l) a inner fits is e = by (starts_at bytes (plus p 1) (codes "[]")) refl e
  where
    by : (z : Bool) → starts_at bytes (plus p 1) (codes "[]") ≡ z → (if z then Some (record { link_type = Collapsed; label = l; end = plus p 3 }) else Some (record { link_type = Shortcut; label = l; end = plus p 1 })) ≡ Some a → Closes bytes p a.end
    by true s k = record {
      at = suc (plus p 1);
      byte = 93;
      is = byte_dropped bytes (suc (plus p 1)) 93 w.rest (drop_more bytes (plus p 1) 91 (93 ∷ w.rest) w.here);
      end_is = ap (λ (x : Asked). x.end) (same_some a (record { link_type = Collapsed; label = l; end = plus p 3 }) (sym k)) ∙ (let m : plus p 3 ≡ plus (suc (plus p 1)) 1 = omega arith in m);
      behind = omega arith;
      calm = (refl, refl, refl);
    }
      where
        w : Here bytes (plus p 1) (codes "[]")
        w = starts_here bytes (plus p 1) (codes "[]") s
    by false s k = record {
      at = p;
      byte = 93;
      is = is;
      end_is = ap (λ (x : Asked). x.end) (same_some a (record { link_type = Shortcut; label = l; end = plus p 1 }) (sym k));
      behind = omega arith;
      calm = (refl, refl, refl);
    }

asked_closes : (bytes : List ℕ) (b : Bracket) (p : ℕ) (a : Asked) → p < length bytes → length bytes + 2 < 2 ^ 64 → byte_at bytes p ≡ 93 → asked bytes b p (label bytes (p + 1)) ≡ Some a → Closes bytes p a.end
asked_closes bytes b p a inner fits is e = by (label bytes (p + 1)) refl e
  where
    by : (o : Option Word) → label bytes (p + 1) ≡ o → asked bytes b p o ≡ Some a → Closes bytes p a.end
    by None f k = own_closes bytes p (ending_at p (label_from bytes b.inner)) a inner fits is k
    by (Some l) f k =
        let c : Closes bytes (p + 1) l.next = label_closes bytes (p + 1) l (omega arith) f in
        subst (Closes bytes p) (ap (λ (x : Asked). x.end) (same_some (record { link_type = Reference; label = l; end = l.next }) a k)) (sooner bytes p (p + 1) l.next (omega arith) c)

-- places of a link's end
pub record Ended (bytes : List ℕ) (p end : ℕ) : Type 0 where
  pub further : p < end
  pub within : end ≤ length bytes
  pub clean : Clean bytes end
  pub passes : Passes bytes p end

ends_well : (bytes : List ℕ) (p end : ℕ) → length bytes + 2 < 2 ^ 64 → Closes bytes p end → Ended bytes p end
ends_well bytes p end fits c = record {
  further = (let b : p ≤ c.at = c.behind in omega (arith, at));
  within = omega (arith, at, inner);
  clean = clean_after bytes c.at end at (ap (λ x. x == 32) c.is ∙ c.calm.0);
  passes = passes_by bytes p end c.at (omega arith) at c.behind inner (ap (λ x. x == 92) c.is ∙ c.calm.1);
}
  where
    inner : c.at < length bytes
    inner = by (nat_lt c.at (length bytes)) refl
      where
        by : (z : Bool) → nat_lt c.at (length bytes) ≡ z → c.at < length bytes
        by true e = grind (arith, nat_tests, e)
        by false e = absurd (true≢false (ap (λ x. x == 10) (sym (past_end bytes c.at (let l : length bytes ≤ c.at = grind (arith, nat_tests, e) in l)) ∙ c.is) ∙ c.calm.2))

    at : end ≡ suc c.at
    at = let k : end ≡ plus c.at 1 = c.end_is in omega (arith, k, inner)

pub inline_ends : (bytes : List ℕ) (p : ℕ) (found : InlineTarget) → p < length bytes → length bytes + 2 < 2 ^ 64 → inline_target bytes (p + 1) ≡ Some found → Ended bytes p found.end
inline_ends bytes p found inner fits e = ends_well bytes p found.end fits (sooner bytes p (p + 1) found.end (omega arith) (inline_closes bytes (p + 1) found (omega arith) e))

pub asked_ends : (bytes : List ℕ) (b : Bracket) (p : ℕ) (a : Asked) → p < length bytes → length bytes + 2 < 2 ^ 64 → byte_at bytes p ≡ 93 → asked bytes b p (label bytes (p + 1)) ≡ Some a → Ended bytes p a.end
asked_ends bytes b p a inner fits is e = ends_well bytes p a.end fits (asked_closes bytes b p a inner fits is e)
