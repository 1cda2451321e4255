use Rattle.std.proofs.Common.{◌≡◌, ◌∙◌, ◌++◌, ◌∷◌, rules, [], length, false, ap, List}
use Rattle.kin_ids.specs.declared.ids.User.{User}
use Rattle.kin_ids.specs.Users.{has_user}
use Rattle.kin_rules.proofs.Places.{keys-put, put-place}
use Rattle.kin_rules.proofs.indexes.Index.put.Goals as goal

pub invariant_of-self-2 : goal.invariant_of-self-2
invariant_of-self-2 c =
    let grown : c.push_reserved.new.self.items ≡ c.self.inside.users.items ++ c.args.user ∷ [] = c.push_reserved.ensures.items ∙ ap (λ (us : List User). us ++ c.args.user ∷ []) c.in_ok-reserve.ensures.items in
    let none : has_user c.self.inside.users.items c.args.user ≡ false = ap (λ (us : List User). has_user us c.args.user) c.self.view_is ∙ c.requires in
    keys-put c.self.inside.users.items c.push_reserved.new.self.items c.args.user c.self.inside.places.keys c.insert_full.new.self.keys c.self.invariant c.in_ok-insert_full.ensures.keys none grown

pub returns-clause-ok : goal.returns-clause-ok
returns-clause-ok c =
    let grown : c.push_reserved.new.self.items ≡ c.self.inside.users.items ++ c.args.user ∷ [] = c.push_reserved.ensures.items ∙ ap (λ (us : List User). us ++ c.args.user ∷ []) c.in_ok-reserve.ensures.items in
    let end : c.len-place.result ≡ length c.self.inside.users.items = c.len-place.ensures ∙ search rules in
    let none : has_user c.self.inside.users.items c.args.user ≡ false = ap (λ (us : List User). has_user us c.args.user) c.self.view_is ∙ c.requires in
    put-place c.self.inside.users.items c.push_reserved.new.self.items c.args.user c.len-place.result grown end none
