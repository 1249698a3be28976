-- The notes are kept by each change.
use Rattle.std.proofs.Common.{◌≡◌, ℕ, ◌+◌, ◌<◌, ◌≤◌, Option, Some, None, Result, Ok, Err, OnOk, OnErr, List, [], ◌∷◌, ◌++◌, subst, sym, ap, ◌∙◌, take, drop, length, length-append, map, reverse, get_or, arith, IfSome, String, Vec, vec_capacity, string_capacity, set, refl}
use Rattle.std.specs.declared.alloc.Global.{Global}
use Rattle.std.specs.Option.{option_map}
use Rattle.std.proofs.lemmas.List.{take-append-le, map-append, take-map, take_more_set, take_more, length-map, drop-set-lt, get_or-drop, drop-drop}
use Rattle.std.specs.Prelude.{is_some}
use Rattle.tocmark_spelling.specs.Page.{OpeningChoice, Path, prefix_of}
use Rattle.tocmark_write_containers.specs.ContainersOf.{Fits, IsNoted, marked}
use Rattle.tocmark_write_containers.specs.KeptOf.{original, outside_at, present, seen}
use Rattle.tocmark_write_containers.specs.Nesting.{changed, is_counted, numbered, renumbered}
use Rattle.tocmark_write_containers.specs.Outside.{outsides}
use Rattle.tocmark_write_containers.proofs.Seen.{prefix-changed}
use Rattle.tocmark_write_containers.proofs.Says.{Keeps, outsides-changed, outsides-renumbered}
use Rattle.tocmark_write_containers.specs.declared.containers.Containers.TheInside.{Inside}
use Rattle.tocmark_write_containers.specs.declared.kept.Kept.{Kept}

-- the first so many are there still, and look as they did
pub record Stays (fs gs : List Kept) (n : ℕ) : Type 0 where
  pub stayed : n ≤ length fs
  pub original_is : map original (take n fs) ≡ map original (take n gs)
  pub outside_is : map outside_at (take n fs) ≡ map outside_at (take n gs)

-- those of the mark, when those that stayed look the same
same-seen : {Y : Type 0} (f : Kept → Y) (fs gs ps : List Kept) (n : ℕ) → map f (take n fs) ≡ map f (take n gs) → seen f (take n fs ++ reverse ps) ≡ seen f (take n gs ++ reverse ps)
same-seen f fs gs ps n e =
    ap reverse (map-append f (take n fs) (reverse ps) ∙ ap (λ ls. ls ++ map f (reverse ps)) e ∙ sym (map-append f (take n gs) (reverse ps)))

-- containers of which those that stayed look the same, with room as before
pub refit : (a : Inside) (fs : Vec Kept Global) (px : String Global) (o : Option ℕ) → ((n : ℕ) → n ≤ length a.frames.items → Stays fs.items a.frames.items n) → vec_capacity a.frames ≤ vec_capacity fs → string_capacity a.prefix ≤ string_capacity px → IfSome o (λ n. Fits a n) → IfSome o (λ n. Fits (record a { frames = fs; prefix = px }) n)
refit a fs px None stays room wide f = f
refit a fs px (Some n) stays room wide f =
    let s = stays n f.stayed in
    let first = same-seen original fs.items a.frames.items a.closed.items n s.original_is in
    let other = same-seen outside_at fs.items a.frames.items a.closed.items n s.outside_is in
    record {
      stayed = s.stayed;
      room = omega (arith, f.room, room);
      prefix_room = rw first (omega (arith, f.prefix_room, wide));
      told = other ∙ f.told ∙ sym (ap outsides first);
    }

-- all containers look the same, whatever their contents are
pub stayed : (fs gs : List Kept) (n : ℕ) → map original fs ≡ map original gs → map outside_at fs ≡ map outside_at gs → n ≤ length gs → Stays fs gs n
stayed fs gs n e o less = record {
  stayed = omega (arith, less, ap length e, length-map fs original, length-map gs original);
  original_is = sym (take-map original n fs) ∙ ap (take n) e ∙ take-map original n gs;
  outside_is = sym (take-map outside_at n fs) ∙ ap (take n) o ∙ take-map outside_at n gs;
}

-- the same with one more container
pub stayed-more : (fs gs : List Kept) (k : Kept) (n : ℕ) → fs ≡ gs ++ k ∷ [] → n ≤ length gs → Stays fs gs n
stayed-more fs gs k n e less =
    let same = ap (take n) e ∙ take-append-le n gs (k ∷ []) less in
    record {
      stayed = omega (arith, less, ap length e, length-append gs (k ∷ []));
      original_is = ap (map original) same;
      outside_is = ap (map outside_at) same;
    }

-- the same with one less, of those that weren't open at the mark
pub stayed-less : (fs gs : List Kept) (k : Kept) (n : ℕ) → gs ≡ fs ++ k ∷ [] → n ≤ length fs → Stays fs gs n
stayed-less fs gs k n e less =
    let same = sym (take-append-le n fs (k ∷ []) less) ∙ ap (take n) (sym e) in
    record {
      stayed = less;
      original_is = ap (map original) same;
      outside_is = ap (map outside_at) same;
    }

-- what was at the mark is told by what each open container was there
pub same-at-mark : (a : Inside) (fs : Vec Kept Global) (o : Option ℕ) → map original fs.items ≡ map original a.frames.items → option_map (λ n. seen original (marked (record a { frames = fs }) n)) o ≡ option_map (λ n. seen original (marked a n)) o
same-at-mark a fs None e = refl
same-at-mark a fs (Some n) e =
    ap Some (same-seen original fs.items a.frames.items a.closed.items n (sym (take-map original n fs.items) ∙ ap (take n) e ∙ take-map original n a.frames.items))

-- lists that agree from a place on agree there
same-there : (ks ms : List Kept) (i : ℕ) (d : Kept) → drop i ks ≡ drop i ms → get_or ks i d ≡ get_or ms i d
same-there ks ms i d e =
    let at-ks : get_or (drop i ks) 0 d ≡ get_or ks i d = get_or-drop i ks 0 d ∙ ap (λ n. get_or ks n d) (omega arith) in
    let at-ms : get_or (drop i ms) 0 d ≡ get_or ms i d = get_or-drop i ms 0 d ∙ ap (λ n. get_or ms n d) (omega arith) in
    sym at-ks ∙ ap (λ l. get_or l 0 d) e ∙ at-ms

-- one step of a loop that makes each container what another list says
pub restore-step : {Y : Type 0} (f g : Kept → Y) (ks ms : List Kept) (i : ℕ) (k d : Kept) → i < length ks → length ks ≡ length ms → d ≡ get_or ks i d → f k ≡ g d → map f (take i ks) ≡ map g (take i ms) → drop i ks ≡ drop i ms → map f (take (i + 1) (set ks i k)) ≡ map g (take (i + 1) ms)
restore-step f g ks ms i k d less len at e done rest =
    ap (map f) (take_more_set ks i k less)
    ∙ map-append f (take i ks) (k ∷ [])
    ∙ ap (λ l. l ++ f k ∷ []) done
    ∙ ap (λ y. map g (take i ms) ++ y ∷ []) (e ∙ ap g (at ∙ same-there ks ms i d rest))
    ∙ sym (map-append g (take i ms) (get_or ms i d ∷ []))
    ∙ ap (map g) (sym (take_more ms i d (subst (λ n. i < n) len less)))

-- what is after the place of that step
pub rest-step : (ks ms : List Kept) (i : ℕ) (k : Kept) → drop i ks ≡ drop i ms → drop (i + 1) (set ks i k) ≡ drop (i + 1) ms
rest-step ks ms i k e = drop-set-lt (i + 1) ks i k (omega arith) ∙ sym (drop-drop 1 i ks) ∙ ap (drop 1) e ∙ drop-drop 1 i ms

-- ---- one of them replaced

-- the prefix is the same, and so is what they say
pub record IsLeft (new old : Path) : Type 0 where
  pub prefix_is : prefix_of new ≡ prefix_of old
  pub told_is : outsides new ≡ outsides old

-- a content that is changed leaves both
left-changed : (n : ℕ) (f : OpeningChoice → OpeningChoice) (new old : Path) → Keeps f → new ≡ changed n f old → IsLeft new old
left-changed n f new old h e = record {
  prefix_is = ap prefix_of e ∙ prefix-changed n f old;
  told_is = ap outsides e ∙ outsides-changed n f old h;
}

-- the same of a change that may be refused
pub left-by : {T E : Type 0} (r : Result T E) (n : ℕ) (f : OpeningChoice → OpeningChoice) (new old : Path) → Keeps f → OnOk r (new ≡ changed n f old) → OnErr r (new ≡ old) → IsLeft new old
left-by (Ok x) n f new old h e stays = left-changed n f new old h e
left-by (Err x) n f new old h e stays = record { prefix_is = ap prefix_of stays; told_is = ap outsides stays }

-- a list that goes on with another number leaves both
pub left-renumbered : (number : Option ℕ) (new old : Path) → is_counted old ≡ is_some number → new ≡ renumbered number old → IsLeft new old
left-renumbered number new old counted e = record {
  prefix_is = ap prefix_of e ∙ prefix-changed 0 (numbered number) old;
  told_is = ap outsides e ∙ outsides-renumbered number old counted;
}

-- containers of which one was replaced by one that leaves both
pub replaced : (a : Inside) (fs : Vec Kept Global) → IsLeft (seen present fs.items) (seen present a.frames.items) → map original fs.items ≡ map original a.frames.items → map outside_at fs.items ≡ map outside_at a.frames.items → vec_capacity fs ≡ vec_capacity a.frames → IsNoted a → IsNoted (record a { frames = fs })
replaced a fs left originals outside capacity h = record {
  prefix_is = h.prefix_is ∙ sym left.prefix_is;
  told = ap reverse outside ∙ h.told ∙ sym left.told_is;
  fits = refit a fs a.prefix a.kept (λ n less. stayed fs.items a.frames.items n originals outside less) (omega (arith, capacity)) (omega arith) h.fits;
}
