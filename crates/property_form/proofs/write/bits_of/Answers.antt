-- `property_form::write::bits_of` meets its contract: five puts, one right behind the other.
use Rattle.property_form.proofs.FormBits.{put_all}
use Rattle.property_form.proofs.write.bits_of.Goals as goal

pub returns : goal.returns
returns c =
    put_all c.args.p c.put_field.new.list c.put_field-2.new.list c.put_field-3.new.list
    c.put_actions.new.list c.put_allowed.new.list c.put_field.ensures c.put_field-2.ensures
    c.put_field-3.ensures c.put_actions.ensures c.put_allowed.ensures
