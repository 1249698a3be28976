use Rattle.std.proofs.Common.{codes}
use Rattle.json.specs.Print.{escape_byte}
use Rattle.serde_json.specs.Data.{string}
use Rattle.tocmark_json.proofs.Adding.{brought, string_sound, truth_tagged_twice}
use Rattle.tocmark_json.proofs.printing.print_link_type.Goals as goal

pub returns-in-Inline : goal.returns-in-Inline
unfolding escape_byte
returns-in-Inline c = rw c.in-Inline.is (brought c.push.result c.args.out.now.items c.push.new.out.items _ (string (codes "Inline")) (string_sound (codes "Inline")) c.push.ensures)

pub returns-in-Reference : goal.returns-in-Reference
unfolding escape_byte
returns-in-Reference c = rw c.in-Reference.is (brought c.push-in-Reference.result c.args.out.now.items c.push-in-Reference.new.out.items _ (string (codes "Reference")) (string_sound (codes "Reference")) c.push-in-Reference.ensures)

pub returns-in-ReferenceUnknown : goal.returns-in-ReferenceUnknown
unfolding escape_byte
returns-in-ReferenceUnknown c = rw c.in-ReferenceUnknown.is (brought c.push-in-ReferenceUnknown.result c.args.out.now.items c.push-in-ReferenceUnknown.new.out.items _ (string (codes "ReferenceUnknown")) (string_sound (codes "ReferenceUnknown")) c.push-in-ReferenceUnknown.ensures)

pub returns-in-Collapsed : goal.returns-in-Collapsed
unfolding escape_byte
returns-in-Collapsed c = rw c.in-Collapsed.is (brought c.push-in-Collapsed.result c.args.out.now.items c.push-in-Collapsed.new.out.items _ (string (codes "Collapsed")) (string_sound (codes "Collapsed")) c.push-in-Collapsed.ensures)

pub returns-in-CollapsedUnknown : goal.returns-in-CollapsedUnknown
unfolding escape_byte
returns-in-CollapsedUnknown c = rw c.in-CollapsedUnknown.is (brought c.push-in-CollapsedUnknown.result c.args.out.now.items c.push-in-CollapsedUnknown.new.out.items _ (string (codes "CollapsedUnknown")) (string_sound (codes "CollapsedUnknown")) c.push-in-CollapsedUnknown.ensures)

pub returns-in-Shortcut : goal.returns-in-Shortcut
unfolding escape_byte
returns-in-Shortcut c = rw c.in-Shortcut.is (brought c.push-in-Shortcut.result c.args.out.now.items c.push-in-Shortcut.new.out.items _ (string (codes "Shortcut")) (string_sound (codes "Shortcut")) c.push-in-Shortcut.ensures)

pub returns-in-ShortcutUnknown : goal.returns-in-ShortcutUnknown
unfolding escape_byte
returns-in-ShortcutUnknown c = rw c.in-ShortcutUnknown.is (brought c.push-in-ShortcutUnknown.result c.args.out.now.items c.push-in-ShortcutUnknown.new.out.items _ (string (codes "ShortcutUnknown")) (string_sound (codes "ShortcutUnknown")) c.push-in-ShortcutUnknown.ensures)

pub returns-in-Autolink : goal.returns-in-Autolink
unfolding escape_byte
returns-in-Autolink c = rw c.in-Autolink.is (brought c.push-in-Autolink.result c.args.out.now.items c.push-in-Autolink.new.out.items _ (string (codes "Autolink")) (string_sound (codes "Autolink")) c.push-in-Autolink.ensures)

pub returns-in-Email : goal.returns-in-Email
unfolding escape_byte
returns-in-Email c = rw c.in-Email.is (brought c.push-in-Email.result c.args.out.now.items c.push-in-Email.new.out.items _ (string (codes "Email")) (string_sound (codes "Email")) c.push-in-Email.ensures)

pub returns-in-WikiLink : goal.returns-in-WikiLink
unfolding escape_byte
returns-in-WikiLink c = rw c.in-WikiLink.is (truth_tagged_twice c.push_truth.result c.args.out.now.items c.push_truth.new.out.items (codes "WikiLink") (codes "has_pothole") _ c.push_truth.ensures)
