-- What contracts see of a node: the tree with what its lists and boxes hold.
-- Made by tools/code.py from tools/type_rules.desc.py.
use Rattle.type_rules.specs.Forms as t
use Rattle.type_rules.specs.declared.forms.ExpectedNode.{ExpectedNode}
use Rattle.type_rules.specs.declared.forms.ExpectedNode.TheVariants as Expected_
use Rattle.type_rules.specs.declared.forms.RawNode.{RawNode}
use Rattle.type_rules.specs.declared.forms.RawNode.TheVariants as Raw_

abbrev pub expected_of : ExpectedNode → t.Expected
expected_of Expected_.None = t.none
expected_of (Expected_.Hint a0) = t.hint a0
expected_of (Expected_.Want a0) = t.want a0

abbrev pub raw_of : RawNode → t.Raw
raw_of (Raw_.Stands a0 a1 a2) = t.stands a0 a1 a2
raw_of (Raw_.Held a0) = t.held a0
