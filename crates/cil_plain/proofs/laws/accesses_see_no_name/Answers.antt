use Rattle.cil_plain.proofs.NaturalAccess as natural
use Rattle.cil_plain.proofs.laws.accesses_see_no_name.Goals as goal

pub returns : goal.returns
returns g c = record {
  type_of = natural.type_of-natural;
  pop_object = natural.pop_object-natural;
  pop_store = natural.pop_store-natural;
  load_field = natural.load_field-natural;
  store_field = natural.store_field-natural;
  pop_element = natural.pop_element-natural;
  pop_element_store = natural.pop_element_store-natural;
  load_element = natural.load_element-natural;
  store_element = natural.store_element-natural;
  load_length = natural.load_length-natural;
}
