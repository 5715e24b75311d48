-- Lines worked by hand, member by member.
use Rattle.std.proofs.Common.{◌≡◌, ℕ, true, false, List, [], ◌∷◌, Some, None, pos, codes, refl}
use Rattle.serde_json.specs.Data.{array, boolean, item, member, no_items, no_members, number, object, string, unsigned}
use Rattle.reg_base.specs.MomentText.{text_of}
use Rattle.reg_base.specs.declared.entity.Entity.TheVariants as entity
use Rattle.reg_base.specs.declared.privilege.Privilege.TheVariants.{Update}
use Rattle.reg_terms.specs.declared.command.Command.{Command}
use Rattle.reg_terms.specs.declared.command.Command.TheVariants.{AttrdefAdd, GrantAdd, Load, MemberAdd, RuleEndLost, ValueAdd}
use Rattle.reg_terms.specs.declared.command.Stamped.{Stamped}
use Rattle.reg_terms.specs.declared.kinds.DefKind.TheVariants.{Integer}
use Rattle.reg_terms.specs.declared.kinds.Value.TheVariants as value
use Rattle.reg_terms.specs.declared.lists.LoadRow.{LoadRow}
use Rattle.reg_export.specs.Lines.{line_members, request_members}

-- what ann gives the registry at moment 0
given : Command → Stamped
given command = record { at = 0; by = entity.Person (codes "uni/ann"); key = None; command = command }

row : List ℕ → List ℕ → LoadRow
row group person = record { group = group; person = person }

-- a membership with an end and no beginning
member_added : line_members 7 8 None (given (MemberAdd (codes "app:x") (entity.Group (codes "app:y")) None (Some 60)))
    ≡ member (codes "at") (string (text_of 0))
    (member (codes "by") (string (codes "uni/ann"))
    (member (codes "group") (string (codes "app:x"))
    (member (codes "member") (string (codes "g:gsa/app:y"))
    (member (codes "number") (number (unsigned 7))
    (member (codes "op") (string (codes "member.add"))
    (member (codes "place") (number (unsigned 8))
    (member (codes "until") (string (text_of 60)) no_members)))))))
unfolding line_members request_members given
member_added = refl

-- the same under a key
member_added_once : line_members 7 8 None (record (given (MemberAdd (codes "app:x") (entity.Group (codes "app:y")) None None)) { key = Some (codes "k1") })
    ≡ member (codes "at") (string (text_of 0))
    (member (codes "by") (string (codes "uni/ann"))
    (member (codes "group") (string (codes "app:x"))
    (member (codes "key") (string (codes "k1"))
    (member (codes "member") (string (codes "g:gsa/app:y"))
    (member (codes "number") (number (unsigned 7))
    (member (codes "op") (string (codes "member.add"))
    (member (codes "place") (number (unsigned 8)) no_members)))))))
unfolding line_members request_members given
member_added_once = refl

grant_added : line_members 8 70 None (given (GrantAdd (codes "app") Update entity.Everyone None None))
    ≡ member (codes "at") (string (text_of 0))
    (member (codes "by") (string (codes "uni/ann"))
    (member (codes "holder") (string (codes "g:isa/GrouperAll"))
    (member (codes "number") (number (unsigned 8))
    (member (codes "object") (string (codes "app"))
    (member (codes "op") (string (codes "grant.add"))
    (member (codes "place") (number (unsigned 70))
    (member (codes "privilege") (string (codes "UPDATE")) no_members)))))))
unfolding line_members request_members given
grant_added = refl

-- the same from a moment on and up to another
grant_dated : line_members 8 70 None (given (GrantAdd (codes "app") Update entity.Everyone (Some 60) (Some 90)))
    ≡ member (codes "at") (string (text_of 0))
    (member (codes "by") (string (codes "uni/ann"))
    (member (codes "from") (string (text_of 60))
    (member (codes "holder") (string (codes "g:isa/GrouperAll"))
    (member (codes "number") (number (unsigned 8))
    (member (codes "object") (string (codes "app"))
    (member (codes "op") (string (codes "grant.add"))
    (member (codes "place") (number (unsigned 70))
    (member (codes "privilege") (string (codes "UPDATE"))
    (member (codes "until") (string (text_of 90)) no_members)))))))))
unfolding line_members request_members given
grant_dated = refl

-- a rule, which has the id 3
rule_made : line_members 9 132 (Some 3) (given (RuleEndLost (codes "app:x") (codes "app:y") 30))
    ≡ member (codes "at") (string (text_of 0))
    (member (codes "by") (string (codes "uni/ann"))
    (member (codes "check") (string (codes "app:x"))
    (member (codes "days") (number (unsigned 30))
    (member (codes "id") (number (unsigned 3))
    (member (codes "number") (number (unsigned 9))
    (member (codes "op") (string (codes "rule.end_lost"))
    (member (codes "owner") (string (codes "app:y"))
    (member (codes "place") (number (unsigned 132)) no_members))))))))
unfolding line_members request_members given
rule_made = refl

-- a value of the assignment that has the id 4
value_added : line_members 10 200 None (given (ValueAdd (codes "app:size") (codes "app:x") 4 (value.Int (pos 12))))
    ≡ member (codes "at") (string (text_of 0))
    (member (codes "attribute") (string (codes "app:size"))
    (member (codes "by") (string (codes "uni/ann"))
    (member (codes "id") (number (unsigned 4))
    (member (codes "number") (number (unsigned 10))
    (member (codes "object") (string (codes "app:x"))
    (member (codes "op") (string (codes "value.add"))
    (member (codes "place") (number (unsigned 200))
    (member (codes "value") (number (unsigned 12)) no_members))))))))
unfolding line_members request_members given
value_added = refl

definition_added : line_members 11 263 None (given (AttrdefAdd (codes "app:sizes") (record { folder = true; group = false; subject = true }) false Integer true))
    ≡ member (codes "at") (string (text_of 0))
    (member (codes "by") (string (codes "uni/ann"))
    (member (codes "definition") (string (codes "app:sizes"))
    (member (codes "kind") (string (codes "integer"))
    (member (codes "many") (boolean true)
    (member (codes "number") (number (unsigned 11))
    (member (codes "op") (string (codes "attrdef.add"))
    (member (codes "owners") (array (item (string (codes "folder")) (item (string (codes "subject")) no_items)))
    (member (codes "place") (number (unsigned 263))
    (member (codes "several") (boolean false) no_members)))))))))
unfolding line_members request_members given
definition_added = refl

-- the job nightly makes app:x, takes bob out of app:y, and adds ann to app:x
loaded : line_members 12 330 None (given (Load (codes "nightly") (codes "app:x" ∷ []) (row (codes "app:y") (codes "uni/bob") ∷ []) (row (codes "app:x") (codes "uni/ann") ∷ [])))
    ≡ member (codes "added") (array (item (object (member (codes "group") (string (codes "app:x")) (member (codes "person") (string (codes "uni/ann")) no_members))) no_items))
    (member (codes "at") (string (text_of 0))
    (member (codes "by") (string (codes "uni/ann"))
    (member (codes "created") (array (item (string (codes "app:x")) no_items))
    (member (codes "job") (string (codes "nightly"))
    (member (codes "number") (number (unsigned 12))
    (member (codes "op") (string (codes "load"))
    (member (codes "place") (number (unsigned 330))
    (member (codes "removed") (array (item (object (member (codes "group") (string (codes "app:y")) (member (codes "person") (string (codes "uni/bob")) no_members))) no_items)) no_members))))))))
unfolding line_members request_members given row
loaded = refl
