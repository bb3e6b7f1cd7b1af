-- What a contract sees of a unit.
use Rattle.rule_code.specs.declared.unit.Unit as unit
use Rattle.rule_code.specs.Content.{Content, content_of}

abbrev pub content : unit.Unit → Content
content u = content_of u.version u.texts.items u.symbols.items u.rules.items
