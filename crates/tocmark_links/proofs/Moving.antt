-- Links after a move.
use Rattle.std.proofs.Common.{◌≡◌, refl, sym, ◌∙◌, ap, subst, ℕ, zero, suc, ◌<◌, ◌==◌, Bool, true, false, ◌||◌, ◌&&◌, not, List, [], ◌∷◌, ◌++◌, All, true≢false, Option, None, Some, unwrap_or, String, string_bytes, if◌then◌else◌, arith, inl, inr, length, slice_index, IsUtf8}
use Rattle.std.proofs.lemmas.Bool.Decides.{eqb_tells, nat_tests}
use Rattle.std.specs.Global.{Global}
use Rattle.std.specs.List.{fold}
use Rattle.std.specs.Option.{option_and_then, option_map}
use Rattle.std.specs.Str.Lossy.{utf8_lossy}
use Rattle.std.proofs.lemmas.List.Elements.{All-cons}
use Rattle.std.proofs.lemmas.Str.{IsUtf8-append, IsUtf8-from_ascii, utf8_lossy-IsUtf8}
use Rattle.percent_encoding.proofs.PercentLemmas.{percent_decode_not_percent}
use Rattle.percent_encoding.specs.Percent.{percent_decode}
use Rattle.tocmark_links.specs.Destinations.{decoded, is_local, has_scheme, path_of, IsPlain, IsFollowed, IsRest}
use Rattle.tocmark_links.specs.Leading.{after, Follows, led_by, led_to, LeadsAfter, NamesItself, new_or}
use Rattle.tocmark_links.specs.Naming.{kind_at, named, placed}
use Rattle.tocmark_links.specs.Paths.{begins_at_root, folder_of, gone, joined, parts_of, resolved, IsPlace}
use Rattle.tocmark_links.specs.declared.moves.Moves.{Moves}
use Rattle.tocmark_links.specs.declared.tree.Kind.{Kind}
use Rattle.tocmark_links.specs.declared.tree.Tree.{Tree}
use Rattle.tocmark_links.proofs.Back.{no-slash-in-front, start-root}
use Rattle.tocmark_links.proofs.Cutting.{path-back}

-- ---- the path from the root

-- a slash in front of a place leads there from each folder
rooted : (folder place : List ℕ) → IsPlace place → resolved folder (47 ∷ place) ≡ Some place
rooted folder place h =
    sym (ap (λ o. option_map joined (fold gone o (parts_of place))) (start-root (begins_at_root place))) ∙ h

-- no place begins with a slash, and so no text that is decoded to one
no-slash : (text place : List ℕ) → percent_decode text ≡ place → IsPlace place → begins_at_root text ≡ false
no-slash [] place e h = refl
no-slash (b ∷ text) place e h = elim (eqb_tells b 47) [
  | inl t ↦
      let first : percent_decode (b ∷ text) ≡ b ∷ percent_decode text = percent_decode_not_percent b text (λ q. omega (arith, t.1, q)) in
      absurd (true≢false (sym t.0 ∙ ap begins_at_root (sym first ∙ e) ∙ no-slash-in-front place h))
  | inr f ↦ f.0
]

followed-front : (text rest : List ℕ) → begins_at_root text ≡ false → IsRest rest → begins_at_root (text ++ rest) ≡ false
followed-front [] [] h r = refl
followed-front [] (b ∷ rest) h r = elim (eqb_tells b 47) [
  | inl t ↦ absurd (true≢false (sym (subst (λ c. ((c == 35) || (c == 63)) ≡ true) t.1 r)))
  | inr f ↦ f.0
]
followed-front (b ∷ text) rest h r = h

slash-ascii : (i : ℕ) → slice_index (47 ∷ []) i < 128
slash-ascii zero = omega arith
slash-ascii (suc i) = omega arith

pub from-root : (is_book : Bool) (kinds : List ℕ → Kind) (from text place new : List ℕ) → percent_decode text ≡ place → All IsPlain text → IsUtf8 place → IsFollowed (47 ∷ text) new → NamesItself is_book kinds place → led_to is_book kinds from new ≡ Some place
from-root is_book kinds from text place new e plain u f n =
    let rest : List ℕ = f.0 in
    let path : path_of new ≡ 47 ∷ text =
    ap path_of f.2 ∙ path-back (47 ∷ text) rest (All-cons IsPlain 47 text refl plain) f.1 in
    let front : begins_at_root (text ++ rest) ≡ false = followed-front text rest (no-slash text place e n.0) f.1 in
    let local : is_local (47 ∷ (text ++ rest)) ≡ true = ap (λ b. not b && not (has_scheme (47 ∷ (text ++ rest)))) front in
    let whole : utf8_lossy (47 ∷ place) ≡ 47 ∷ place =
    utf8_lossy-IsUtf8 (47 ∷ place) (IsUtf8-append (47 ∷ []) place (IsUtf8-from_ascii (47 ∷ []) slash-ascii) u) in
    let bytes : decoded (47 ∷ text) ≡ 47 ∷ place =
    ap utf8_lossy (percent_decode_not_percent 47 text (λ q. omega (arith, q)) ∙ ap (λ xs. 47 ∷ xs) e) ∙ whole in
    let some : (length (47 ∷ text) == 0) ≡ false = grind (arith, nat_tests) in
    ap (λ b. if b then led_by is_book kinds from (path_of new) else None) (ap is_local f.2 ∙ local)
    ∙ ap (led_by is_book kinds from) path
    ∙ ap (λ b. if b then Some from else option_and_then (named is_book kinds) (resolved (folder_of from) (decoded (47 ∷ text)))) some
    ∙ ap (λ xs. option_and_then (named is_book kinds) (resolved (folder_of from) xs)) bytes
    ∙ ap (option_and_then (named is_book kinds)) (rooted (folder_of from) place n.0)
    ∙ n.1

-- ---- a moved link

pub follows : (tree : Tree) (moves : Moves) (from old path home place : List ℕ) (new : Option (String Global)) → Some path ≡ led_to tree.is_book (kind_at tree) from old → home ≡ placed moves from → place ≡ placed moves path → (NamesItself tree.is_book (after tree moves) place → LeadsAfter tree moves home (new_or new old) place) → Follows tree moves from old new
follows tree moves from old path home place new led h p leads = λ found is names.
    let same : path ≡ found = ap (λ o. unwrap_or o path) (led ∙ is) in
    let target : place ≡ placed moves found = p ∙ ap (placed moves) same in
    ap (λ f. led_to tree.is_book (after tree moves) f (new_or new old)) (sym h)
    ∙ leads (subst (NamesItself tree.is_book (after tree moves)) (sym target) names)
    ∙ ap Some target
