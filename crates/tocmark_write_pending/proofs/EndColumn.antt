-- One event more: the places where containers end.
use Rattle.std.proofs.Common.{◌≡◌, ◌<◌, ℕ, Option, Some, None, List, [], ◌∷◌, ◌++◌, refl, sym, ap, ◌∙◌, length, get_or, arith, length-append, length-set}
use Rattle.std.proofs.Math.ListN.{set}
use Rattle.tocmark_event.specs.View.{SourcedEvent, Start, End, Leaf}
use Rattle.tocmark_spelling.specs.Scans.{AreEnds, end_at}
use Rattle.tocmark_write_pending.specs.OpenContainers.{EndsAt, ends_with}
use Rattle.tocmark_write_pending.proofs.Columns.{IsFound, IsOfEnded, found-end, found-leaf, found-start, got-grown, got-other, got-same, rest-length}
use Rattle.tocmark_write_pending.proofs.OpenContainers.{drop-more, end-kept, end-now, end-open, place-inside}

abbrev ends_value : ℕ → List SourcedEvent → Option ℕ
ends_value i es = end_at i es

end-column : (i : ℕ) → end_at i [] ≡ None
end-column i = refl

ends-of : IsOfEnded ends_value None
ends-of = record {
  kept = λ i t rest x h. end-kept i rest x h;
  opened = λ i t rest k h. end-open i rest k h;
  at_end = λ i k rest. refl;
  at_leaf = λ i l rest. refl;
}

ends-found : (es : List SourcedEvent) (ends : List (Option ℕ)) → AreEnds es ends → IsFound ends_value None end-column es (λ i. get_or (ends ++ None ∷ []) i None)
ends-found es ends h i = got-grown ends None i ∙ h.at i

-- one event more, of whatever kind
pub ends-more : (es : List SourcedEvent) (e : SourcedEvent) (o : Option ℕ) (ends : List (Option ℕ)) → AreEnds es ends → EndsAt es e o → AreEnds (es ++ e ∷ []) (ends_with o ends)
ends-more es (Start t) (Some p) ends held a = absurd a
ends-more es (Start t) None ends held a = record {
  len = omega (arith, length-append ends (None ∷ []), length-append es (Start t ∷ []), held.len);
  at = found-start ends_value None end-column ends-of es (λ i. get_or (ends ++ None ∷ []) i None) (ends-found es ends held) t refl;
}
ends-more es (Leaf l) (Some p) ends held a = absurd a
ends-more es (Leaf l) None ends held a = record {
  len = omega (arith, length-append ends (None ∷ []), length-append es (Leaf l ∷ []), held.len);
  at = found-leaf ends_value None end-column ends-of es (λ i. get_or (ends ++ None ∷ []) i None) (ends-found es ends held) l;
}
ends-more es (End k) None ends held a = absurd a
ends-more es (End k) (Some p) ends held a = record {
  len = omega (arith, length-append (set ends p v) (None ∷ []), length-append es (End k ∷ []), length-set {A = Option ℕ}, held.len);
  at = found-end ends_value None end-column ends-of es (λ i. get_or ends i None) held.at k p v (λ i. get_or (set ends p v ++ None ∷ []) i None) a
      (ap (end_at p) (drop-more es p (Start a.tag) a.rest (End k ∷ []) a.starts)
      ∙ end-now p a.rest k a.within
      ∙ ap (λ n. Some n) (rest-length es p 0 a ∙ sym held.len))
      (λ i ne. got-grown (set ends p v) None i ∙ got-other ends None v p i ne)
      (got-grown (set ends p v) None p ∙ got-same ends None v p inside);
}
  where
    v : Option ℕ
    v = Some (length ends)

    inside : p < length ends
    inside = let lt = place-inside es p 0 a in omega (arith, lt, held.len)
