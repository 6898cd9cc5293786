-- A value's content, and what a view borrows of it, as plain data.
use Rattle.sb_types.specs.declared.value.Content.{Content}
use Rattle.sb_types.specs.declared.value.Content.TheVariants as contents
use Rattle.sb_types.specs.declared.value.ValueRef.{ValueRef}
use Rattle.sb_types.specs.declared.value.ValueRef.TheVariants as views
use Rattle.sb_types.specs.Value.{Value, Addr, Weight, Flag, Text}

abbrev pub value_of_content : Content → Value
value_of_content (contents.Addr text) = Addr text.items
value_of_content (contents.Weight weight) = Weight weight
value_of_content (contents.Flag flag) = Flag flag
value_of_content (contents.Text text) = Text text.items

-- the value whose content is borrowed
abbrev pub value_of_ref : ValueRef → Value
value_of_ref (views.Addr text) = Addr text.now
value_of_ref (views.Weight weight) = Weight weight
value_of_ref (views.Flag flag) = Flag flag
value_of_ref (views.Text text) = Text text.now
