-- What delimiters border on, by what a reader finds.
use Rattle.std.proofs.Common.{◌≡◌, ℕ, false, Some, List, [], ◌∷◌, refl, sym, ap, map, nat_lt}
use Rattle.std.specs.Prelude.{◌||◌}
use Rattle.std.specs.List.{list_any}
use Rattle.tocmark_event.specs.Text.{ParserEvent, text_of}
use Rattle.tocmark_event.specs.View.{EventView, event_view}
use Rattle.tocmark_spelling.specs.Edges.{opens_behind, is_boundary, is_boundary_character}
use Rattle.tocmark_spelling.specs.Kinds.{starts, is_emphasis}
use Rattle.tocmark_spelling.specs.Plan.{Setting}

pub any-events : (es : List (ParserEvent × (ℕ × ℕ))) → list_any (λ (e : ParserEvent × (ℕ × ℕ)). starts is_emphasis (event_view text_of e.0)) es ≡ list_any (λ e. starts is_emphasis e) (map (λ (e : EventView × (ℕ × ℕ)). e.0) (map (λ (e : ParserEvent × (ℕ × ℕ)). (event_view text_of e.0, e.1)) es))
any-events [] = refl
any-events (e ∷ es) = ap (λ b. starts is_emphasis (event_view text_of e.0) || b) (any-events es)

pub boundary-past : (s : Setting) (c : ℕ) → nat_lt c 128 ≡ false → opens_behind s c ≡ is_boundary s (Some c)
unfolding is_boundary
boundary-past s c e = sym (ap (λ b. is_boundary_character b s c) e)
