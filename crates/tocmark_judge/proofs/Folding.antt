-- A summary that grows, if white space is folded.
use Rattle.std.proofs.Common.{◌≡◌, ◌≢◌, ◌∙◌, sym, ap, refl, subst, ℕ, Bool, true, false, List, [], ◌∷◌, ◌++◌, append-nil, append_assoc, chars, encode_utf8, encode_utf8_all, IsUtf8, length, arith, map, take, get_or, ◌+◌, ◌<◌}
use Rattle.std.proofs.lemmas.List.{map_more}
use Rattle.std.proofs.lemmas.Str.{chars_past_char, chars-nil, encodes-append}
use Rattle.tocmark_event.specs.Merged.{merged}
use Rattle.tocmark_event.specs.View.{EventView, Leaf, Text}
use Rattle.tocmark_compare.specs.Digest.{SaysFirst, says}
use Rattle.tocmark_compare.specs.declared.digest.Digest.{Digest}
use Rattle.tocmark_compare.proofs.Digests.{says-all}
use Rattle.tocmark_judge.specs.Same.{SpotView, after, at_front, counted, ends_white, folded, folded_character, folded_characters, folded_event, folded_text, folded_text_event, is_behind_white, is_white, text_event}
use Rattle.tocmark_judge.specs.Summaries.{Folds, Sums, SumsAs, SumsFirst, after_all, spot_view}
use Rattle.tocmark_judge.specs.declared.summary.Folder.{Folder}
use Rattle.tocmark_judge.specs.declared.summary.Summary.{Summary}

-- one more event
pub folded-more : (s : SpotView) (xs : List EventView) (e : EventView) → folded s (xs ++ e ∷ []) ≡ folded s xs ++ folded_event (after_all s xs) e
folded-more s [] e = append-nil (folded_event s e)
folded-more s (x ∷ xs) e =
    ap (λ es. folded_event s x ++ es) (folded-more (after s x) xs e)
    ∙ sym (append_assoc (folded_event s x) (folded (after s x) xs) (folded_event (after_all (after s x) xs) e))

pub after-more : (s : SpotView) (xs : List EventView) (e : EventView) → after_all s (xs ++ e ∷ []) ≡ after (after_all s xs) e
after-more s [] e = refl
after-more s (x ∷ xs) e = after-more (after s x) xs e

pub folds-more : (old new : Folder) (e : EventView) → ((before : List EventView) → SaysFirst old.digest before → SaysFirst new.digest (before ++ folded_event (spot_view old.spot) e)) → spot_view new.spot ≡ after (spot_view old.spot) e → (before : List EventView) → Folds old before → Folds new (before ++ e ∷ [])
folds-more old new e said stands before h = record {
  digest = subst (λ es. SaysFirst new.digest es)
      (ap (λ s. folded at_front before ++ folded_event s e) h.spot ∙ sym (folded-more at_front before e))
      (said (folded at_front before) h.digest);
  spot = stands ∙ ap (λ s. after s e) h.spot ∙ sym (after-more at_front before e);
}

-- a summary that has all events
sums-as : (w : Bool) (f : Folder) (events : List EventView) → SumsAs w f events → says f.digest ≡ merged (counted w events)
sums-as false f events h = says-all f.digest events h
sums-as true f events h = says-all f.digest (folded at_front events) h.digest

pub sums-all : (s : Summary) (events : List EventView) → SumsFirst s events → Sums s events
sums-all s events h = sums-as s.folds s.folder events h

-- one that has none
pub sums-none : (w : Bool) (f : Folder) → SaysFirst f.digest [] → spot_view f.spot ≡ at_front → SumsAs w f []
sums-none false f said stands = said
sums-none true f said stands = record { digest = said; spot = stands }

-- two that are the same
pub sums-same : (w : Bool) (s t : Summary) → s.folds ≡ w → t.folds ≡ w → says s.folder.digest ≡ says t.folder.digest → (one two : List EventView) → Sums s one → Sums t two → merged (counted w one) ≡ merged (counted w two)
sums-same w s t e f same one two h k =
    ap (λ v. merged (counted v one)) (sym e) ∙ sym h ∙ same ∙ k ∙ ap (λ v. merged (counted v two)) f

-- an event that counts for none
pub says-nothing : (d : Digest) (more : List EventView) → more ≡ [] → (before : List EventView) → SaysFirst d before → SaysFirst d (before ++ more)
says-nothing d more none before h = subst (λ es. SaysFirst d es) (sym (ap (λ es. before ++ es) none ∙ append-nil before)) h

-- a text outside of blocks that keep their lines
pub text-counts : (s : SpotView) (t u : List ℕ) → s.raw ≡ false → u ≡ folded_text s.behind t → folded_event s (Leaf (Text t)) ≡ text_event u
text-counts s t u r e = ap (λ b. folded_text_event b s.behind t) r ∙ ap text_event (sym e)

pub text-next : (s : SpotView) (t : List ℕ) (white : Bool) → s.raw ≡ false → white ≡ ends_white s.behind (chars t) → record { raw = false; behind = white } ≡ after s (Leaf (Text t))
text-next s t white r e =
    ap (λ (w : Bool). record { raw = false; behind = w }) e
    ∙ ap (λ (b : Bool). record { raw = b; behind = is_behind_white b s.behind t }) (sym r)

pub some-text : (u : List ℕ) → length u ≢ 0 → text_event u ≡ Leaf (Text u) ∷ []
some-text [] h = absurd (h refl)
some-text (b ∷ u) h = refl

pub no-text : (u : List ℕ) → length u ≡ 0 → text_event u ≡ []
no-text [] h = refl
no-text (b ∷ u) h = absurd (omega arith)

-- one more character of a text
pub folded-step : (done new bs rest whole : List ℕ) (behind white : Bool) (c : ℕ) → new ≡ done ++ encode_utf8_all (folded_character behind c) → white ≡ is_white c → IsUtf8 bs → bs ≡ encode_utf8 c ++ rest → done ++ folded_text behind bs ≡ whole → new ++ folded_text white rest ≡ whole
folded-step done new bs rest whole behind white c p q u e h =
    ap (λ x. x ++ folded_text white rest) p
    ∙ ap (λ w. (done ++ encode_utf8_all (folded_character behind c)) ++ folded_text w rest) q
    ∙ append_assoc done (encode_utf8_all (folded_character behind c)) (folded_text (is_white c) rest)
    ∙ ap (λ x. done ++ x) (sym (encodes-append (folded_character behind c) (folded_characters (is_white c) (chars rest))))
    ∙ ap (λ cs. done ++ encode_utf8_all (folded_characters behind cs)) (sym (chars_past_char bs rest c u e))
    ∙ h

pub white-step : (bs rest : List ℕ) (behind white whole : Bool) (c : ℕ) → white ≡ is_white c → IsUtf8 bs → bs ≡ encode_utf8 c ++ rest → ends_white behind (chars bs) ≡ whole → ends_white white (chars rest) ≡ whole
white-step bs rest behind white whole c q u e h =
    ap (λ w. ends_white w (chars rest)) q ∙ ap (ends_white behind) (sym (chars_past_char bs rest c u e)) ∙ h

-- and none
no-chars : (bs : List ℕ) → length bs ≡ 0 → chars bs ≡ []
no-chars [] e = chars-nil
no-chars (b ∷ bs) e = absurd (omega arith)

pub folded-none : (done bs whole : List ℕ) (behind : Bool) → length bs ≡ 0 → done ++ folded_text behind bs ≡ whole → done ≡ whole
folded-none done bs whole behind e h =
    sym (append-nil done)
    ∙ ap (λ cs. done ++ encode_utf8_all (folded_characters behind cs)) (sym (no-chars bs e))
    ∙ h

pub white-none : (bs : List ℕ) (behind whole : Bool) → length bs ≡ 0 → ends_white behind (chars bs) ≡ whole → behind ≡ whole
white-none bs behind whole e h = ap (ends_white behind) (sym (no-chars bs e)) ∙ h

-- one more element of two lists that are alike so far
pub taken-more : {A X : Type 0} (f : A → X) (xs ys : List A) (i : ℕ) (x y : A) → i < length xs → i < length ys → x ≡ get_or xs i x → y ≡ get_or ys i y → map f (take i xs) ≡ map f (take i ys) → f x ≡ f y → map f (take (i + 1) xs) ≡ map f (take (i + 1) ys)
taken-more f xs ys i x y h k p q same one =
    map_more f xs i x h
    ∙ ap (λ z. map f (take i xs) ++ f z ∷ []) (sym p)
    ∙ ap (λ zs. zs ++ f x ∷ []) same
    ∙ ap (λ z. map f (take i ys) ++ z ∷ []) one
    ∙ ap (λ z. map f (take i ys) ++ f z ∷ []) q
    ∙ sym (map_more f ys i y k)
