-- What is found at a place of a unit's events.
use Rattle.std.proofs.Common.{◌≡◌, ℕ, zero, suc, Bool, true, false, List, [], ◌∷◌, refl, ap, ◌∙◌, subst, drop}
use Rattle.std.specs.Prelude.{◌||◌}
use Rattle.std.specs.List.{list_any}
use Rattle.std.proofs.lemmas.Bool.{false≢true}
use Rattle.tocmark_write_pending.proofs.Ahead.{nested-at}
use Rattle.tocmark_write_pending.specs.Ahead.{AreNested}
use Rattle.tocmark_write_emphasis.specs.NodeOf.{Begins}
use Rattle.tocmark_event.specs.Forest.{flat}
use Rattle.tocmark_event.specs.View.{TagView, Emphasis, Strong, SourcedEvent, Start}
use Rattle.tocmark_spelling.specs.Body.{Trees}
use Rattle.tocmark_spelling.specs.Kinds.{is_emphasis_or_strong}
use Rattle.tocmark_spelling.specs.Look.{Look}
use Rattle.tocmark_spelling.specs.Opening.{open_emphasis, opening_of}
use Rattle.tocmark_spelling.specs.Page.{Path, Page}
use Rattle.tocmark_spelling.specs.Plan.{Setting, Manner}

or-right : (a b : Bool) → b ≡ true → a || b ≡ true
or-right true b e = refl
or-right false b e = e

some-behind : (test : SourcedEvent → Bool) (es : List SourcedEvent) (i : ℕ) → list_any test (drop i es) ≡ true → list_any test es ≡ true
some-behind test es zero h = h
some-behind test [] (suc i) h = h
some-behind test (e ∷ es) (suc i) h = or-right _ (list_any test es) (some-behind test es i h)

-- some event passes a test where the one at a place does
pub some-at : (test : SourcedEvent → Bool) (es : List SourcedEvent) (i : ℕ) (e : SourcedEvent) (rest : List SourcedEvent) → drop i es ≡ e ∷ rest → test e ≡ true → list_any test es ≡ true
some-at test es i e rest at passes = some-behind test es i (ap (list_any test) at ∙ ap (λ b. b || list_any test rest) passes)

-- a container of emphasis or strong emphasis that starts in a forest's list
pub begins : (f : Trees) (es : List SourcedEvent) (i : ℕ) (t : TagView) (rest : List SourcedEvent) → flat f ≡ es → drop i es ≡ Start t ∷ rest → is_emphasis_or_strong t ≡ true → Begins es i t rest
begins f es i t rest is at delimits =
    record {
      at = at;
      delimits = delimits;
      nested = (subst AreNested (ap (drop i) is ∙ at) (nested-at f i)).0;
    }

-- the row of emphasis and strong emphasis
pub emphasis-row : (s : Setting) (m : Manner) (t : TagView) (l : Look) (path : Path) (p : Page) → is_emphasis_or_strong t ≡ true → open_emphasis s m t l path p ≡ opening_of s m t l path p
emphasis-row s m Emphasis l path p e = refl
emphasis-row s m Strong l path p e = refl
emphasis-row s m t l path p e = absurd (false≢true e)
