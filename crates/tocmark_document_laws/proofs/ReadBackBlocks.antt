-- The layout of blocks is read as these blocks, by recursion on them.
use Rattle.std.proofs.Common.{◌≡◌, ◌⊎◌, inl, inr, ℕ, zero, suc, ◌+◌, ◌-◌, ◌*◌, ◌^◌, ◌<◌, ◌≤◌, Bool, true, false, List, [], ◌∷◌, ◌++◌, length, map, replicate, refl, ap, sym, subst, ◌∙◌, arith, append_assoc, append-nil, length-append}
use Rattle.std.specs.Prelude.{None}
use Rattle.std.specs.List.{AllByRecursion}
use Rattle.tocmark_event.specs.Options.{OptionsView}
use Rattle.tocmark_event.specs.declared.event.flags.ParserOptions.{ParserOptions}
use Rattle.tocmark_read_blocks.proofs.PlainLines.{IsWithin}
use Rattle.tocmark_text_laws.specs.Quoted.{Quote, Told, Trees, Node, none, more, outer_quote, deeper, tree_told}
use Rattle.tocmark_text_laws.specs.Sequence.{IsClosed, IsQuiet, trees_joined}
use Rattle.tocmark_text_laws.proofs.QuotedTrees.{one_tree}
use Rattle.tocmark_text_laws.proofs.SequenceTrees.{Outermost, trees_in_a_row}
use Rattle.tocmark_laws.specs.Documents.{PlainBlock, PlainParagraph, PlainHeading, PlainRule, PlainCode}
use Rattle.tocmark_document_laws.specs.Blocks.{Blocks, Nothing, PlainThen, QuoteThen, BulletsThen, ItemThen}
use Rattle.tocmark_document_laws.specs.DocumentLines.{Line, block_lines, document_lines, feeds_below, feeds_below_quote, gap_lines, joined, layout, quoted}
use Rattle.tocmark_document_laws.specs.ReadBack.{sort_read, block_read, fed_before, trees_of, HasNoList, HasTrees}
use Rattle.tocmark_document_laws.proofs.ReadBackTexts.{ended, ended_fed, ended_after, fed_empty, fed_front, LinesWithin, EndsWell, Reads, later_same, in_a_row, with_blank, behind_feeds, feed_reads, nothing_reads, quote_reads, quote_ends}
use Rattle.tocmark_document_laws.proofs.ReadBackBare.{bare_reads}
use Rattle.tocmark_document_laws.proofs.ReadBackLines.{lines_below, front_lines, same_front}

-- lines

pub lines_joined : (ls : List Line) → joined ls ≡ ended false ls
lines_joined [] = refl
lines_joined (l ∷ []) = refl
lines_joined (l ∷ m ∷ ms) = ap (λ (t : List ℕ). l ++ 10 ∷ t) (lines_joined (m ∷ ms))

within_both : (xs ys : List Line) → LinesWithin xs → LinesWithin ys → LinesWithin (xs ++ ys)
within_both [] ys h k = k
within_both (x ∷ xs) ys h k = (h.0, within_both xs ys (h.1) k)

gap_within : (n : ℕ) → LinesWithin (replicate n [])
gap_within zero = tt
gap_within (suc n) = (tt, gap_within n)

space_within : IsWithin 32
space_within = record { feed = refl; return = refl; tab = refl }

angle_within : IsWithin 62
angle_within = record { feed = refl; return = refl; tab = refl }

marked_within : (ls : List Line) → LinesWithin ls → LinesWithin (map quoted ls)
marked_within [] h = tt
marked_within (l ∷ ls) h = ((space_within, (angle_within, (space_within, h.0))), marked_within ls (h.1))

ends_after : (xs : List Line) (y : Line) (ys : List Line) → EndsWell false (y ∷ ys) → EndsWell false (xs ++ y ∷ ys)
ends_after [] y ys h = h
ends_after (x ∷ []) y ys h = h
ends_after (x ∷ z ∷ xs) y ys h = ends_after (z ∷ xs) y ys h

ends_marked : (l : Line) (ls : List Line) → EndsWell false (map quoted (l ∷ ls))
ends_marked l [] = (let q : 0 < suc (suc (suc (length l))) = omega arith in q)
ends_marked l (m ∷ ls) = ends_marked m ls

-- there is a line
record Cons (ls : List Line) : Type 0 where
  first : Line
  more : List Line
  is : ls ≡ first ∷ more

cons_after : (xs : List Line) (y : Line) (ys : List Line) → Cons (xs ++ y ∷ ys)
cons_after [] y ys = record { first = y; more = ys; is = refl }
cons_after (x ∷ xs) y ys = record { first = x; more = xs ++ y ∷ ys; is = refl }

longer : (e : Bool) (ls : List Line) → length (ended e ls) ≤ length (ended e (map quoted ls))
longer e [] = omega arith
longer true (l ∷ []) = omega arith
longer false (l ∷ []) = omega arith
longer e (l ∷ m ∷ ms) = omega (arith, longer e (m ∷ ms), length-append l (10 ∷ ended e (m ∷ ms)), length-append l (10 ∷ ended e (map quoted (m ∷ ms))))

abbrev pub Bound : List ℕ → Type 0
Bound t = 8 * length t + 28 < 2 ^ 64

-- lines after which so many line feeds come: nothing is open, or an empty line ends what is open
abbrev pub Closes : List Line → ℕ → Type 0
Closes ls feeds = IsClosed (ended true ls) ⊎ (IsQuiet (ended true ls) × (2 ≤ feeds))

-- blocks are there, and no list comes first
abbrev IsSome : Blocks → Type 0
IsSome Nothing = ⊥
IsSome (PlainThen b f) = Unit {0}
IsSome (QuoteThen kids f) = Unit {0}
IsSome (BulletsThen items f) = ⊥
IsSome (ItemThen kids f) = ⊥

module _ (o : OptionsView) (flags : ParserOptions) where
  abbrev below : ℕ → Blocks → List Line
  below n f = lines_below o flags n f

  -- a plain block without its places
  abbrev pub block_told : Bool → PlainBlock → Told
  block_told e b = record { depth = 0; sort = sort_read b; loose = false; list = None; lines = block_read o flags e b }

  -- how a plain block is read by itself
  pub record Stands (b : PlainBlock) : Type 0 where
    pub first : Line
    pub more : List Line
    pub lines : block_lines o flags b ≡ first ∷ more
    pub within : LinesWithin (block_lines o flags b)
    pub ends : (e : Bool) → EndsWell e (block_lines o flags b)
    pub reads : (e : Bool) → length (ended e (block_lines o flags b)) < 2 ^ 64 → Reads (ended e (block_lines o flags b)) (block_told e b ∷ [])
    pub closes : length (ended true (block_lines o flags b)) < 2 ^ 64 → Closes (block_lines o flags b) (feeds_below o b)

  -- all plain blocks are so, and no block is a list
  abbrev pub AllStand : Blocks → Type 0
  AllStand Nothing = Unit {0}
  AllStand (PlainThen b f) = Stands b × AllStand f
  AllStand (QuoteThen kids f) = AllStand kids × AllStand f
  AllStand (BulletsThen items f) = ⊥
  AllStand (ItemThen kids f) = ⊥

  -- the blocks that are read, in order
  abbrev pub tolds : Bool → Blocks → List Told
  tolds e Nothing = []
  tolds e (PlainThen b f) = (block_told (fed_before e f) b ∷ []) ++ tolds e f
  tolds e (QuoteThen kids f) = (outer_quote ∷ map deeper (tolds (fed_before e f) kids)) ++ tolds e f
  tolds e (BulletsThen items f) = []
  tolds e (ItemThen kids f) = []

  -- what lines are

  all_within : (n : ℕ) (f : Blocks) → AllStand f → LinesWithin (below n f)
  all_within n Nothing h = tt
  all_within n (PlainThen b f) h =
      within_both (gap_lines n ++ block_lines o flags b) (below (feeds_below o b) f) (within_both (gap_lines n) (block_lines o flags b) (gap_within (n - 1)) (h.0).within) (all_within (feeds_below o b) f (h.1))
  all_within n (QuoteThen kids f) h =
      within_both (gap_lines n ++ map quoted ([] ∷ below 1 kids)) (below (feeds_below_quote o) f)
      (within_both (gap_lines n) (map quoted ([] ∷ below 1 kids)) (gap_within (n - 1)) (marked_within ([] ∷ below 1 kids) (tt, all_within 1 kids (h.0))))
      (all_within (feeds_below_quote o) f (h.1))
  all_within n (BulletsThen items f) h = absurd h
  all_within n (ItemThen kids f) h = absurd h

  cons_in : (g body rest : List Line) (y : Line) (ys : List Line) → body ≡ y ∷ ys → Cons ((g ++ body) ++ rest)
  cons_in g body rest y ys e = subst (λ ls. Cons ls) (sym (append_assoc g body rest)) (subst (λ (ls : List Line). Cons (g ++ (ls ++ rest))) (sym e) (cons_after g y (ys ++ rest)))

  some_below : (n : ℕ) (f : Blocks) → IsSome f → AllStand f → Cons (below n f)
  some_below n Nothing s h = absurd s
  some_below n (PlainThen b f) s h = cons_in (gap_lines n) (block_lines o flags b) (below (feeds_below o b) f) (h.0).first (h.0).more (h.0).lines
  some_below n (QuoteThen kids f) s h = cons_in (gap_lines n) (map quoted ([] ∷ below 1 kids)) (below (feeds_below_quote o) f) (quoted []) (map quoted (below 1 kids)) refl
  some_below n (BulletsThen items f) s h = absurd s
  some_below n (ItemThen kids f) s h = absurd s

  -- an empty line comes first
  gap_more : (k : ℕ) → gap_lines (suc (suc k)) ≡ [] ∷ gap_lines (suc k)
  gap_more k = ap (λ n. replicate n []) (let q : suc (suc k) - 1 ≡ suc (suc k - 1) = omega arith in q)

  blank_below : (k : ℕ) (f : Blocks) → IsSome f → below (suc (suc k)) f ≡ [] ∷ below (suc k) f
  blank_below k Nothing s = absurd s
  blank_below k (PlainThen b f) s = ap (λ (g : List Line). (g ++ block_lines o flags b) ++ below (feeds_below o b) f) (gap_more k)
  blank_below k (QuoteThen kids f) s = ap (λ (g : List Line). (g ++ map quoted ([] ∷ below 1 kids)) ++ below (feeds_below_quote o) f) (gap_more k)
  blank_below k (BulletsThen items f) s = absurd s
  blank_below k (ItemThen kids f) s = absurd s

  -- how lines end

  part_ends : (g body rest : List Line) (y : Line) (ys : List Line) → body ≡ y ∷ ys → EndsWell false body → (rest ≡ []) ⊎ (Cons rest × EndsWell false rest) → EndsWell false ((g ++ body) ++ rest)
  part_ends g body rest y ys e w (inl k) =
      subst (λ (r : List Line). EndsWell false ((g ++ body) ++ r)) (sym k)
      (subst (EndsWell false) (sym (append-nil (g ++ body))) (subst (λ (ls : List Line). EndsWell false (g ++ ls)) (sym e) (ends_after g y ys (subst (EndsWell false) e w))))
  part_ends g body rest y ys e w (inr (c, k)) =
      subst (λ (r : List Line). EndsWell false ((g ++ body) ++ r)) (sym c.is) (ends_after (g ++ body) c.first c.more (subst (EndsWell false) c.is k))

  mutual
    all_ends : (n : ℕ) (f : Blocks) → AllStand f → EndsWell false (below n f)
    all_ends n Nothing h = tt
    all_ends n (PlainThen b f) h = part_ends (gap_lines n) (block_lines o flags b) (below (feeds_below o b) f) (h.0).first (h.0).more (h.0).lines ((h.0).ends false) (rest_ends (feeds_below o b) f (h.1))
    all_ends n (QuoteThen kids f) h = part_ends (gap_lines n) (map quoted ([] ∷ below 1 kids)) (below (feeds_below_quote o) f) (quoted []) (map quoted (below 1 kids)) refl (ends_marked [] (below 1 kids)) (rest_ends (feeds_below_quote o) f (h.1))
    all_ends n (BulletsThen items f) h = absurd h
    all_ends n (ItemThen kids f) h = absurd h

    rest_ends : (n : ℕ) (f : Blocks) → AllStand f → (below n f ≡ []) ⊎ (Cons (below n f) × EndsWell false (below n f))
    rest_ends n Nothing h = inl refl
    rest_ends n (PlainThen b f) h = inr (some_below n (PlainThen b f) tt h, part_ends (gap_lines n) (block_lines o flags b) (below (feeds_below o b) f) (h.0).first (h.0).more (h.0).lines ((h.0).ends false) (rest_ends (feeds_below o b) f (h.1)))
    rest_ends n (QuoteThen kids f) h = inr (some_below n (QuoteThen kids f) tt h, part_ends (gap_lines n) (map quoted ([] ∷ below 1 kids)) (below (feeds_below_quote o) f) (quoted []) (map quoted (below 1 kids)) refl (ends_marked [] (below 1 kids)) (rest_ends (feeds_below_quote o) f (h.1)))
    rest_ends n (BulletsThen items f) h = absurd h
    rest_ends n (ItemThen kids f) h = absurd h

  -- a body, and the blocks after it

  -- what is read of blocks below so many line feeds
  abbrev Goes : Bool → Blocks → Type 0
  Goes e f = (n : ℕ) → Bound (ended e (below n f)) → Reads (ended e (below n f)) (tolds e f)

  -- a text that is two texts is longer than each
  two_parts : (e : Bool) (body : List Line) (c : Cons body) (rest : List Line) (d : Cons rest) → ended e (body ++ rest) ≡ ended true body ++ ended e rest
  two_parts e body c rest d =
      ap (λ (r : List Line). ended e (body ++ r)) d.is
      ∙ ended_after e body d.first d.more
      ∙ ap (λ (t : List ℕ). t ++ ended e (d.first ∷ d.more)) (sym (ended_fed body))
      ∙ ap (λ (r : List Line). ended true body ++ ended e r) (sym d.is)

  some_rest : (e : Bool) (feeds : ℕ) (body : List Line) (c : Cons body) (f : Blocks) (xs : List Told) → IsSome f → AllStand f → (Bound (ended true body) → Reads (ended true body) xs) → (Bound (ended true body) → Closes body feeds) → Goes e f
      → Bound (ended e (body ++ below feeds f)) → Reads (ended e (body ++ below feeds f)) (xs ++ tolds e f)
  some_rest e feeds body c f xs s h reads closes goes small = subst (λ (t : List ℕ). Reads t (xs ++ tolds e f)) (sym split) (by (closes first_small))
    where
      rest : List Line
      rest = below feeds f

      d : Cons rest
      d = some_below feeds f s h

      split : ended e (body ++ rest) ≡ ended true body ++ ended e rest
      split = two_parts e body c rest d

      wide : length (ended e (body ++ rest)) ≡ length (ended true body) + length (ended e rest)
      wide = ap length split ∙ length-append (ended true body) (ended e rest)

      first_small : Bound (ended true body)
      first_small = omega (arith, wide, small)

      by : Closes body feeds → Reads (ended true body ++ ended e rest) (xs ++ tolds e f)
      by (inl k) = in_a_row (ended true body) (ended e rest) xs (tolds e f) k (omega (arith, wide, small)) (reads first_small) (goes feeds (omega (arith, wide, small)))
      by (inr (k, two)) =
          let m : ℕ = feeds - 2 in
          let more : feeds ≡ suc (suc m) = omega (arith, two) in
          let z : Cons (below (suc m) f) = some_below (suc m) f s h in
          let later : ended e rest ≡ 10 ∷ ended e (below (suc m) f) =
          ap (λ n. ended e (below n f)) more
          ∙ ap (λ (ls : List Line). ended e ls) (blank_below m f s)
          ∙ ap (λ (ls : List Line). ended e ([] ∷ ls)) z.is
          ∙ ap (λ (ls : List Line). 10 ∷ ended e ls) (sym z.is)
          in
          let long : length (ended e rest) ≡ suc (length (ended e (below (suc m) f))) = ap length later in
          subst (λ (t : List ℕ). Reads (ended true body ++ t) (xs ++ tolds e f)) (sym later)
          (with_blank (ended true body) (ended e (below (suc m) f)) xs (tolds e f) k (omega (arith, wide, long, small)) (reads first_small) (goes (suc m) (omega (arith, wide, long, small))))

  body_rest : (e : Bool) (feeds : ℕ) (body : List Line) (c : Cons body) (f : Blocks) (xs : Bool → List Told) → AllStand f → ((e : Bool) → Bound (ended e body) → Reads (ended e body) (xs e)) → (Bound (ended true body) → Closes body feeds) → Goes e f
      → Bound (ended e (body ++ below feeds f)) → Reads (ended e (body ++ below feeds f)) (xs (fed_before e f) ++ tolds e f)
  body_rest e feeds body c Nothing xs h reads closes goes small =
      subst (λ (ts : List Told). Reads (ended e (body ++ [])) ts) (sym (append-nil (xs e)))
      (subst (λ (ls : List Line). Reads (ended e ls) (xs e)) (sym (append-nil body)) (reads e (subst (λ (ls : List Line). Bound (ended e ls)) (append-nil body) small)))
  body_rest e feeds body c (PlainThen b f) xs h reads closes goes small = some_rest e feeds body c (PlainThen b f) (xs true) tt h (reads true) closes goes small
  body_rest e feeds body c (QuoteThen kids f) xs h reads closes goes small = some_rest e feeds body c (QuoteThen kids f) (xs true) tt h (reads true) closes goes small
  body_rest e feeds body c (BulletsThen items f) xs h reads closes goes small = absurd h
  body_rest e feeds body c (ItemThen kids f) xs h reads closes goes small = absurd h

  -- the same below empty lines
  step : (e : Bool) (n feeds : ℕ) (body : List Line) (c : Cons body) (f : Blocks) (xs : Bool → List Told) → AllStand f → ((e : Bool) → Bound (ended e body) → Reads (ended e body) (xs e)) → (Bound (ended true body) → Closes body feeds) → Goes e f
      → Bound (ended e ((gap_lines n ++ body) ++ below feeds f)) → Reads (ended e ((gap_lines n ++ body) ++ below feeds f)) (xs (fed_before e f) ++ tolds e f)
  step e n feeds body c f xs h reads closes goes small =
      subst (λ (t : List ℕ). Reads t (xs (fed_before e f) ++ tolds e f)) (sym split)
      (behind_feeds (n - 1) (ended e (body ++ rest)) (xs (fed_before e f) ++ tolds e f) (omega (arith, wide, small)) (body_rest e feeds body c f xs h reads closes goes (omega (arith, wide, small))))
    where
      rest : List Line
      rest = below feeds f

      split : ended e ((gap_lines n ++ body) ++ rest) ≡ replicate (n - 1) 10 ++ ended e (body ++ rest)
      split =
          ap (ended e) (append_assoc (gap_lines n) body rest)
          ∙ ap (λ (ls : List Line). ended e (gap_lines n ++ (ls ++ rest))) c.is
          ∙ ended_after e (gap_lines n) c.first (c.more ++ rest)
          ∙ ap (λ (t : List ℕ). t ++ ended e (c.first ∷ (c.more ++ rest))) (fed_empty (n - 1))
          ∙ ap (λ (ls : List Line). replicate (n - 1) 10 ++ ended e (ls ++ rest)) (sym c.is)

      feeds_long : (n : ℕ) → length {A = ℕ} (replicate n 10) ≡ n
      feeds_long zero = refl
      feeds_long (suc n) = ap suc (feeds_long n)

      wide : length (ended e ((gap_lines n ++ body) ++ rest)) ≡ (n - 1) + length (ended e (body ++ rest))
      wide = ap length split ∙ length-append (replicate (n - 1) 10) (ended e (body ++ rest)) ∙ ap (λ k. k + length (ended e (body ++ rest))) (feeds_long (n - 1))

  -- quotes

  inner_reads : (e : Bool) (kids : Blocks) → IsSome kids → AllStand kids → Goes e kids → Bound (ended e ([] ∷ below 1 kids)) → Reads (ended e ([] ∷ below 1 kids)) (tolds e kids)
  inner_reads e kids s h goes small =
      let z : Cons (below 1 kids) = some_below 1 kids s h in
      let one : ended e ([] ∷ below 1 kids) ≡ 10 ∷ ended e (below 1 kids) = ap (λ (ls : List Line). ended e ([] ∷ ls)) z.is ∙ ap (λ (ls : List Line). 10 ∷ ended e ls) (sym z.is) in
      let long : length (ended e ([] ∷ below 1 kids)) ≡ suc (length (ended e (below 1 kids))) = ap length one in
      subst (λ (t : List ℕ). Reads t (tolds e kids)) (sym one) (behind_feeds 1 (ended e (below 1 kids)) (tolds e kids) (omega (arith, long, small)) (goes 1 (omega (arith, long, small))))

  some_text : (e : Bool) (kids : Blocks) → IsSome kids → AllStand kids → 0 < length (ended e ([] ∷ below 1 kids))
  some_text e kids s h =
      let z : Cons (below 1 kids) = some_below 1 kids s h in
      let long : length (ended e ([] ∷ below 1 kids)) ≡ suc (length (ended e (z.first ∷ z.more))) = ap (λ (ls : List Line). length (ended e ([] ∷ ls))) z.is in
      omega (arith, long)

  quote_body : (e : Bool) (kids : Blocks) → IsSome kids → AllStand kids → Goes e kids → Bound (ended e (map quoted ([] ∷ below 1 kids))) → Reads (ended e (map quoted ([] ∷ below 1 kids))) (outer_quote ∷ map deeper (tolds e kids))
  quote_body e kids s h goes small =
      let ls : List Line = [] ∷ below 1 kids in
      let less : length (ended e ls) ≤ length (ended e (map quoted ls)) = longer e ls in
      quote_reads e ls (tolds e kids) (tt, all_within 1 kids h) (well e) (some_text e kids s h) (omega (arith, less, small)) (inner_reads e kids s h goes (omega (arith, less, small)))
    where
      well : (e : Bool) → EndsWell e ([] ∷ below 1 kids)
      well true = tt
      well false = let z : Cons (below 1 kids) = some_below 1 kids s h in subst (λ (ls : List Line). EndsWell false ([] ∷ ls)) (sym z.is) (subst (EndsWell false) z.is (all_ends 1 kids h))

  quote_closes : (kids : Blocks) → AllStand kids → Bound (ended true (map quoted ([] ∷ below 1 kids))) → Closes (map quoted ([] ∷ below 1 kids)) (feeds_below_quote o)
  quote_closes kids h small =
      let ls : List Line = [] ∷ below 1 kids in
      let less : length (ended true ls) ≤ length (ended true (map quoted ls)) = longer true ls in
      inr (
        record {
          line = fed_front (quoted []) (map quoted (below 1 kids));
          ends = (quote_ends ls (tt, all_within 1 kids h) (some (below 1 kids)) (omega (arith, less, small))).ends;
        },
        omega arith,
      )
    where
      some : (ls : List Line) → 0 < length (ended true ([] ∷ ls))
      some [] = omega arith
      some (l ∷ ls) = omega arith

  quote_any : (e : Bool) (kids : Blocks) → AllStand kids → Goes e kids → Bound (ended e (map quoted ([] ∷ below 1 kids))) → Reads (ended e (map quoted ([] ∷ below 1 kids))) (outer_quote ∷ map deeper (tolds e kids))
  quote_any true Nothing h goes small = quote_reads true ([] ∷ []) [] (tt, tt) tt (omega arith) (omega arith) feed_reads
  quote_any false Nothing h goes small = bare_reads
  quote_any e (PlainThen b f) h goes small = quote_body e (PlainThen b f) tt h goes small
  quote_any e (QuoteThen kids f) h goes small = quote_body e (QuoteThen kids f) tt h goes small
  quote_any e (BulletsThen items f) h goes small = absurd h
  quote_any e (ItemThen kids f) h goes small = absurd h

  -- all blocks
  all_read : (e : Bool) (f : Blocks) → AllStand f → Goes e f
  all_read e Nothing h n small = nothing_reads
  all_read e (PlainThen b f) h n small =
      let s = h.0 in
      let body : List Line = block_lines o flags b in
      step e n (feeds_below o b) body (record { first = s.first; more = s.more; is = s.lines }) f (λ e. block_told e b ∷ []) (h.1)
      (λ e k. s.reads e (omega (arith, k))) (λ k. s.closes (omega (arith, k))) (all_read e f (h.1)) small
  all_read e (QuoteThen kids f) h n small =
      let body : List Line = map quoted ([] ∷ below 1 kids) in
      step e n (feeds_below_quote o) body (record { first = quoted []; more = map quoted (below 1 kids); is = refl }) f (λ e. outer_quote ∷ map deeper (tolds e kids)) (h.1)
      (λ e k. quote_any e kids (h.0) (all_read e kids (h.0)) k) (λ k. quote_closes kids (h.0) k) (all_read e f (h.1)) small
  all_read e (BulletsThen items f) h n small = absurd h
  all_read e (ItemThen kids f) h n small = absurd h

  -- an empty line may be in front
  front_read : (f : Blocks) → IsSome f → AllStand f → Bound (ended false ([] ∷ below 1 f)) → Reads (ended false ([] ∷ below 1 f)) (tolds false f)
  front_read f s h small = inner_reads false f s h (all_read false f h) small

  -- the blocks of a document, in the order in which they begin
  document_read : (f : Blocks) → AllStand f → Bound (ended false (front_lines o flags f)) → Reads (ended false (front_lines o flags f)) (tolds false f)
  document_read Nothing h small = nothing_reads
  document_read (QuoteThen kids f) h small = front_read (QuoteThen kids f) tt h small
  document_read (PlainThen (PlainCode info lines) f) h small = front_read (PlainThen (PlainCode info lines) f) tt h small
  document_read (PlainThen (PlainParagraph l ms) f) h small = all_read false (PlainThen (PlainParagraph l ms) f) h 1 small
  document_read (PlainThen (PlainHeading level ts) f) h small = all_read false (PlainThen (PlainHeading level ts) f) h 1 small
  document_read (PlainThen PlainRule f) h small = all_read false (PlainThen PlainRule f) h 1 small
  document_read (BulletsThen items f) h small = absurd h
  document_read (ItemThen kids f) h small = absurd h

  -- trees

  outermost : (e : Bool) (f : Blocks) → Outermost (tolds e f)
  outermost e Nothing = tt
  outermost e (PlainThen b f) = refl
  outermost e (QuoteThen kids f) = refl
  outermost e (BulletsThen items f) = tt
  outermost e (ItemThen kids f) = tt

  deep_listless : (bs : List Told) → AllByRecursion (λ (b : Told). b.list ≡ None) bs → AllByRecursion (λ (b : Told). b.list ≡ None) (map deeper bs)
  deep_listless [] h = tt
  deep_listless (b ∷ bs) h = (rw (h.0) refl, deep_listless bs (h.1))

  both_listless : (xs ys : List Told) → AllByRecursion (λ (b : Told). b.list ≡ None) xs → AllByRecursion (λ (b : Told). b.list ≡ None) ys → AllByRecursion (λ (b : Told). b.list ≡ None) (xs ++ ys)
  both_listless [] ys h k = k
  both_listless (x ∷ xs) ys h k = (h.0, both_listless xs ys (h.1) k)

  listless : (e : Bool) (f : Blocks) → AllByRecursion (λ (b : Told). b.list ≡ None) (tolds e f)
  listless e Nothing = tt
  listless e (PlainThen b f) = (refl, listless e f)
  listless e (QuoteThen kids f) = both_listless (outer_quote ∷ map deeper (tolds (fed_before e f) kids)) (tolds e f) (refl, deep_listless (tolds (fed_before e f) kids) (listless (fed_before e f) kids)) (listless e f)
  listless e (BulletsThen items f) = tt
  listless e (ItemThen kids f) = tt

  in_row : (xs ys : List Told) → Outermost ys → AllByRecursion (λ (b : Told). b.list ≡ None) ys → tree_told (xs ++ ys) ≡ trees_joined (tree_told xs) (tree_told ys)
  in_row xs ys h k = ap (λ (zs : List Told). tree_told (xs ++ zs)) (sym (later_same 0 ys k)) ∙ trees_in_a_row 0 xs ys h

  trees_told : (e : Bool) (f : Blocks) → tree_told (tolds e f) ≡ trees_of o flags e f
  trees_told e Nothing = refl
  trees_told e (PlainThen b f) = in_row (block_told (fed_before e f) b ∷ []) (tolds e f) (outermost e f) (listless e f) ∙ ap (more (Node (sort_read b) false (block_read o flags (fed_before e f) b) none)) (trees_told e f)
  trees_told e (QuoteThen kids f) =
      in_row (outer_quote ∷ map deeper (tolds (fed_before e f) kids)) (tolds e f) (outermost e f) (listless e f)
      ∙ ap (λ (ts : Trees). trees_joined ts (tree_told (tolds e f))) (one_tree (tolds (fed_before e f) kids))
      ∙ ap (λ (ts : Trees). more (Node Quote false [] ts) (tree_told (tolds e f))) (trees_told (fed_before e f) kids)
      ∙ ap (more (Node Quote false [] (trees_of o flags (fed_before e f) kids))) (trees_told e f)
  trees_told e (BulletsThen items f) = refl
  trees_told e (ItemThen kids f) = refl

  -- the layout of blocks that are read by themselves
  pub layout_read : (f : Blocks) → HasNoList f → AllStand f → Bound (layout o flags f) → HasTrees (layout o flags f) (trees_of o flags false f)
  layout_read f q h small =
      let same : layout o flags f ≡ ended false (front_lines o flags f) = lines_joined (document_lines o flags f) ∙ ap (ended false) (same_front o flags f q) in
      let r = document_read f h (subst (λ (t : List ℕ). Bound t) same small) in
      subst (λ (t : List ℕ). HasTrees t (trees_of o flags false f)) (sym same)
      (record { trees_are = ap tree_told r.blocks ∙ trees_told false f; undefined = r.definitions })
