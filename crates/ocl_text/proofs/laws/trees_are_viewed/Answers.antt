use Rattle.ocl_text.proofs.Views as v
use Rattle.ocl_text.proofs.laws.trees_are_viewed.Goals as goal

pub returns-clause-number : goal.returns-clause-number
returns-clause-number c = v.view-Number

pub returns-clause-string : goal.returns-clause-string
returns-clause-string c = v.view-String

pub returns-clause-keyword : goal.returns-clause-keyword
returns-clause-keyword c = v.view-Keyword

pub returns-clause-name : goal.returns-clause-name
returns-clause-name c = v.view-Name

pub returns-clause-enumeration_literal : goal.returns-clause-enumeration_literal
returns-clause-enumeration_literal c = v.view-EnumerationLiteral

pub returns-clause-prefix : goal.returns-clause-prefix
returns-clause-prefix c = v.view-Prefix

pub returns-clause-spine : goal.returns-clause-spine
returns-clause-spine c = v.view-Spine

pub returns-clause-let_in : goal.returns-clause-let_in
returns-clause-let_in c = v.view-Let

pub returns-clause-if_then : goal.returns-clause-if_then
returns-clause-if_then c = v.view-If

pub returns-clause-binding : goal.returns-clause-binding
returns-clause-binding c = v.bound_of-Binding

pub returns-clause-binary : goal.returns-clause-binary
returns-clause-binary c = v.link_of-Binary

pub returns-clause-property : goal.returns-clause-property
returns-clause-property c = v.link_of-Property

pub returns-clause-call : goal.returns-clause-call
returns-clause-call c = v.link_of-Call

pub returns-clause-iterate : goal.returns-clause-iterate
returns-clause-iterate c = v.link_of-Iterate

pub returns-clause-folding : goal.returns-clause-folding
returns-clause-folding c = v.link_of-Fold

pub returns-clause-named_type : goal.returns-clause-named_type
returns-clause-named_type c = v.view_type-Named

pub returns-clause-collection_type : goal.returns-clause-collection_type
returns-clause-collection_type c = v.view_type-Collection
