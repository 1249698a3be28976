-- Steps that leave a file as it is.
use Rattle.std.proofs.Common.{◌≡◌, inl, inr, ℕ, Bool, true, false, List, [], ◌∷◌, ◌++◌, refl, sym, ◌∙◌, ap, subst, append_assoc, if◌then◌else◌, Result, Ok, Err, OnErr}
use Rattle.tocmark_replace.specs.Steps.{Step, Made, Wrote, Tore, Synced, Found, FoundOther, Renamed, Removed, Left, Failed, Clears, written}
use Rattle.tocmark_replace.specs.Texts.{text_after}
use Rattle.tocmark_replace.specs.Moments.{IsQuiet, AreQuiet, Stays, HadOnly, HasOldOrNew}

quiet_text : (first : List ℕ) (before more : List Step) → AreQuiet more → text_after first (more ++ before) ≡ text_after first before
quiet_text first before [] quiet = refl
quiet_text first before (Made ∷ more) quiet = quiet_text first before more quiet.1
quiet_text first before (Wrote text ∷ more) quiet = quiet_text first before more quiet.1
quiet_text first before (Tore ∷ more) quiet = quiet_text first before more quiet.1
quiet_text first before (Synced ∷ more) quiet = quiet_text first before more quiet.1
quiet_text first before (Found text ∷ more) quiet = quiet_text first before more quiet.1
quiet_text first before (FoundOther ∷ more) quiet = quiet_text first before more quiet.1
quiet_text first before (Renamed ∷ more) quiet = absurd quiet.0
quiet_text first before (Removed ∷ more) quiet = quiet_text first before more quiet.1
quiet_text first before (Left ∷ more) quiet = quiet_text first before more quiet.1
quiet_text first before (Failed ∷ more) quiet = quiet_text first before more quiet.1

quiet_had : (new first : List ℕ) (before more : List Step) → AreQuiet more → HadOnly new first before more
quiet_had new first before [] quiet = tt
quiet_had new first before (step ∷ more) quiet = (inl (quiet_text first before (step ∷ more) quiet), quiet_had new first before more quiet.1)

both_quiet : (more last : List Step) → AreQuiet more → AreQuiet last → AreQuiet (last ++ more)
both_quiet more [] quiet then_quiet = quiet
both_quiet more (step ∷ last) quiet then_quiet = (then_quiet.0, both_quiet more last quiet then_quiet.1)

pub stays_by : (before after : List Step) (step : Step) → IsQuiet step → after ≡ step ∷ before → Stays before after
stays_by before after step quiet is = (step ∷ [], is, (quiet, tt))

pub stays_then : (before mid after : List Step) → Stays before mid → Stays mid after → Stays before after
stays_then before mid after s t = (
  t.0 ++ s.0,
  t.1 ∙ ap (λ (l : List Step). t.0 ++ l) s.1 ∙ sym (append_assoc t.0 s.0 before),
  both_quiet s.0 t.0 s.2 t.2,
)

pub stays_found : (before after : List Step) (text : List ℕ) (same : Bool) → after ≡ (if same then Found text else FoundOther) ∷ before → Stays before after
stays_found before after text true is = stays_by before after (Found text) tt is
stays_found before after text false is = stays_by before after FoundOther tt is

pub stays_written : (before after : List Step) (text : List ℕ) (syncs : Bool) → after ≡ written text syncs before → Stays before after
stays_written before after text true is = (Synced ∷ Wrote text ∷ Made ∷ [], is, (tt, (tt, (tt, tt))))
stays_written before after text false is = (Wrote text ∷ Made ∷ [], is, (tt, (tt, tt)))

pub stays_cleared : (before mid after : List Step) → Stays before mid → Clears mid after → Stays before after
stays_cleared before mid after s (inl removed) = stays_then before mid after s (stays_by mid after Removed tt removed)
stays_cleared before mid after s (inr left) = stays_then before mid after s (stays_by mid after Left tt left)

pub stays_old : (new : List ℕ) (before after : List Step) → Stays before after → HasOldOrNew new before after
stays_old new before after s = (s.0, s.1, λ first. quiet_had new first before s.0 s.2)

pub renamed_new : (old new : List ℕ) (syncs : Bool) (before after : List Step) → after ≡ Renamed ∷ Found old ∷ written new syncs before → HasOldOrNew new before after
renamed_new old new true before after is = (
  Renamed ∷ Found old ∷ Synced ∷ Wrote new ∷ Made ∷ [],
  is,
  λ first. (inr refl, (inl refl, (inl refl, (inl refl, (inl refl, tt))))),
)
renamed_new old new false before after is = (
  Renamed ∷ Found old ∷ Wrote new ∷ Made ∷ [],
  is,
  λ first. (inr refl, (inl refl, (inl refl, (inl refl, tt)))),
)

-- what holds at every end holds at an error
pub on_err : {A E P : Type 0} (result : Result A E) → P → OnErr result P
on_err (Ok x) p = tt
on_err (Err e) p = p

abbrev Ended : List ℕ → List ℕ → Bool → List Step → List Step → Bool → Type 0
Ended old new syncs before after done =
    after ≡ (if done then Renamed ∷ Found old ∷ written new syncs before else FoundOther ∷ written new syncs before)

pub ended_new : (old new : List ℕ) (syncs : Bool) (before after : List Step) (done : Bool) → Ended old new syncs before after done → done ≡ true → HasOldOrNew new before after
ended_new old new syncs before after done is test = renamed_new old new syncs before after (subst (Ended old new syncs before after) test is)

pub ended_old : (old new : List ℕ) (syncs : Bool) (before after : List Step) (done : Bool) → Ended old new syncs before after done → done ≡ false → Stays before after
ended_old old new syncs before after done is test =
    let mid = written new syncs before in
    stays_then before mid after (stays_written before mid new syncs refl) (stays_by mid after FoundOther tt (subst (Ended old new syncs before after) test is))
