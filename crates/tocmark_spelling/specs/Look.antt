-- What an opening may ask of its body and of what is round the container.
use Rattle.std.specs.Prelude.{ℕ, Bool, true, false, not, Option, List}
use Rattle.tocmark_event.specs.View.{TagView, EventView}
use Rattle.tocmark_spelling.specs.Plan.{Setting, Manner}
use Rattle.tocmark_spelling.specs.declared.plan.Layout.{Layout}
use Rattle.tocmark_spelling.specs.declared.plan.Layout.TheVariants.{Preferred}
use Rattle.tocmark_spelling.specs.Kinds.{is_paragraph, is_emphasis_or_strong}
use Rattle.tocmark_spelling.specs.Body.{Trees, is_empty, has_tag, begins_paragraph, is_tight, has_lone_paragraph, is_broken, joined_by, text_of_leaf, html_of_leaf, first_html}
use Rattle.tocmark_spelling.specs.ById.{by_id}
use Rattle.tocmark_spelling.specs.Runs.{Run, opening_run, closing_run, opening_width, prefers_underscore, inside}
use Rattle.tocmark_spelling.specs.Page.{Around, front, following}

-- what an opening may ask: what is round the container, its runs of markers, and what its body is like
pub record Look : Type 0 where
  -- the event before the container, the one after it in the unit, and the one after it beyond the unit's end too
  pub previous : Option EventView
  pub next_in_unit : Option EventView
  pub next : Option EventView
  -- the runs of its Start and its End, how many markers it opens with, and whether it prefers the underscore
  pub opening : Run
  pub closing : Run
  pub width : ℕ
  pub prefers : Bool
  -- whether its id spells its body
  pub named : Bool
  -- whether the body is empty, begins with a Paragraph, has one among its trees, or goes over more than one line
  pub empty_body : Bool
  pub begins_paragraph : Bool
  pub has_paragraph : Bool
  pub broken : Bool
  -- as the body of a list: whether it is tight, and whether it is one item with one block, a Paragraph
  pub tight : Bool
  pub lone_paragraph : Bool
  -- its texts joined, its first HTML, and all its HTML joined
  pub text : List ℕ
  pub first_html : Option (List ℕ)
  pub html : List ℕ

-- whether the layout is the preferred one
abbrev pub is_preferred : Layout → Bool
is_preferred Preferred = true
is_preferred l = false

-- only Emphasis and Strong ask what they prefer
abbrev pub prefers_if : Bool → Setting → Manner → TagView → Trees → Around → Bool
prefers_if true s m t kids a = prefers_underscore s (not (is_preferred m.plan.layout)) kids a
prefers_if false s m t kids a = false

-- what an opening may ask; `a` says where the container is
abbrev pub look : Setting → Manner → TagView → Trees → Around → Look
look s m t kids a = record {
  previous = front a.before;
  next_in_unit = front a.after;
  next = following a;
  opening = opening_run t kids a;
  closing = closing_run t kids a;
  width = opening_width t kids;
  prefers = prefers_if (is_emphasis_or_strong t) s m t kids (inside t a);
  named = by_id s t kids;
  empty_body = is_empty kids;
  begins_paragraph = begins_paragraph kids;
  has_paragraph = has_tag is_paragraph kids;
  broken = is_broken kids;
  tight = is_tight kids;
  lone_paragraph = has_lone_paragraph kids;
  text = joined_by text_of_leaf kids;
  first_html = first_html kids;
  html = joined_by html_of_leaf kids;
}
