-- What is an event is a string, or an object with one member.
use Rattle.std.proofs.Common.{codes, refl}
use Rattle.serde_json.specs.Data.{Data, boolean, member, no_members, string}
use Rattle.tocmark_event.specs.View as event
use Rattle.tocmark_event.specs.declared.event.TagEnd.TheVariants as end
use Rattle.tocmark_json.specs.Json.{alignment_json, code_json, end_json, event_json, heading_json, level_json, link_json, listed, metadata_json, optional, quote_json, size_json, tag_json}
use Rattle.tocmark_json.specs.Place.{IsNoObject, IsNoneOf}

module _ (v : Data) (text : IsNoneOf string v) (single : IsNoObject 1 v) where
  pub no_tag_form : IsNoneOf tag_json v
  no_tag_form event.Paragraph h = text (codes "Paragraph") h
  no_tag_form event.HtmlBlock h = text (codes "HtmlBlock") h
  no_tag_form event.Item h = text (codes "Item") h
  no_tag_form event.DefinitionList h = text (codes "DefinitionList") h
  no_tag_form event.DefinitionListTitle h = text (codes "DefinitionListTitle") h
  no_tag_form event.DefinitionListDefinition h = text (codes "DefinitionListDefinition") h
  no_tag_form event.TableHead h = text (codes "TableHead") h
  no_tag_form event.TableRow h = text (codes "TableRow") h
  no_tag_form event.TableCell h = text (codes "TableCell") h
  no_tag_form event.Emphasis h = text (codes "Emphasis") h
  no_tag_form event.Strong h = text (codes "Strong") h
  no_tag_form event.Strikethrough h = text (codes "Strikethrough") h
  no_tag_form event.Superscript h = text (codes "Superscript") h
  no_tag_form event.Subscript h = text (codes "Subscript") h
  no_tag_form (event.Heading l id cs vs) h = single (member (codes "Heading") (heading_json l id cs vs) no_members) h refl
  no_tag_form (event.BlockQuote k) h = single (member (codes "BlockQuote") (optional quote_json k) no_members) h refl
  no_tag_form (event.CodeBlock k) h = single (member (codes "CodeBlock") (code_json k) no_members) h refl
  no_tag_form (event.ListOf n) h = single (member (codes "List") (optional size_json n) no_members) h refl
  no_tag_form (event.FootnoteDefinition s) h = single (member (codes "FootnoteDefinition") (string s) no_members) h refl
  no_tag_form (event.Table vs) h = single (member (codes "Table") (listed alignment_json vs) no_members) h refl
  no_tag_form (event.Link k d t i) h = single (member (codes "Link") (link_json k d t i) no_members) h refl
  no_tag_form (event.Image k d t i) h = single (member (codes "Image") (link_json k d t i) no_members) h refl
  no_tag_form (event.MetadataBlock k) h = single (member (codes "MetadataBlock") (metadata_json k) no_members) h refl

  pub no_end_form : IsNoneOf end_json v
  no_end_form end.Paragraph h = text (codes "Paragraph") h
  no_end_form end.CodeBlock h = text (codes "CodeBlock") h
  no_end_form end.HtmlBlock h = text (codes "HtmlBlock") h
  no_end_form end.Item h = text (codes "Item") h
  no_end_form end.FootnoteDefinition h = text (codes "FootnoteDefinition") h
  no_end_form end.DefinitionList h = text (codes "DefinitionList") h
  no_end_form end.DefinitionListTitle h = text (codes "DefinitionListTitle") h
  no_end_form end.DefinitionListDefinition h = text (codes "DefinitionListDefinition") h
  no_end_form end.Table h = text (codes "Table") h
  no_end_form end.TableHead h = text (codes "TableHead") h
  no_end_form end.TableRow h = text (codes "TableRow") h
  no_end_form end.TableCell h = text (codes "TableCell") h
  no_end_form end.Emphasis h = text (codes "Emphasis") h
  no_end_form end.Strong h = text (codes "Strong") h
  no_end_form end.Strikethrough h = text (codes "Strikethrough") h
  no_end_form end.Superscript h = text (codes "Superscript") h
  no_end_form end.Subscript h = text (codes "Subscript") h
  no_end_form end.Link h = text (codes "Link") h
  no_end_form end.Image h = text (codes "Image") h
  no_end_form (end.Heading l) h = single (member (codes "Heading") (level_json l) no_members) h refl
  no_end_form (end.BlockQuote k) h = single (member (codes "BlockQuote") (optional quote_json k) no_members) h refl
  no_end_form (end.List b) h = single (member (codes "List") (boolean b) no_members) h refl
  no_end_form (end.MetadataBlock k) h = single (member (codes "MetadataBlock") (metadata_json k) no_members) h refl

  pub no_event_form : IsNoneOf event_json v
  no_event_form (event.Start t) h = single (member (codes "Start") (tag_json t) no_members) h refl
  no_event_form (event.End k) h = single (member (codes "End") (end_json k) no_members) h refl
  no_event_form (event.Leaf event.SoftBreak) h = text (codes "SoftBreak") h
  no_event_form (event.Leaf event.HardBreak) h = text (codes "HardBreak") h
  no_event_form (event.Leaf event.Rule) h = text (codes "Rule") h
  no_event_form (event.Leaf (event.Text s)) h = single (member (codes "Text") (string s) no_members) h refl
  no_event_form (event.Leaf (event.Code s)) h = single (member (codes "Code") (string s) no_members) h refl
  no_event_form (event.Leaf (event.InlineMath s)) h = single (member (codes "InlineMath") (string s) no_members) h refl
  no_event_form (event.Leaf (event.DisplayMath s)) h = single (member (codes "DisplayMath") (string s) no_members) h refl
  no_event_form (event.Leaf (event.Html s)) h = single (member (codes "Html") (string s) no_members) h refl
  no_event_form (event.Leaf (event.InlineHtml s)) h = single (member (codes "InlineHtml") (string s) no_members) h refl
  no_event_form (event.Leaf (event.FootnoteReference s)) h = single (member (codes "FootnoteReference") (string s) no_members) h refl
  no_event_form (event.Leaf (event.TaskListMarker b)) h = single (member (codes "TaskListMarker") (boolean b) no_members) h refl
