-- Where the content of a reference stands.
use Rattle.type_rules.specs.Forms.{Raw, stands, held}
use Rattle.rust_ast.specs.Spelled as s

abbrev pub content_place : Raw → s.Place
content_place (stands q x w) = s.through q
content_place (held v) = s.through_value v
