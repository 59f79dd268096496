use Rattle.std.proofs.Common.{refl, ap, lit≤}
use Rattle.formats.specs.declared.Place.{Place}
use Rattle.formats.specs.Readers.{faulted}
use Rattle.marks.specs.Takes.{report}
use Rattle.marks.proofs.Counted.{size_from}
use Rattle.lowering.specs.declared.faults.LowerFault.TheVariants.{Marks}
use Rattle.lowering.specs.Examples.{Short, Worked}
use Rattle.lowering.proofs.examples.examples_stand.Goals as goal

short : (d f1 a b c f g m x : Place) → Short d f1 a b c f g m x
short d f1 a b c f g m x = record {
  empty_draws = refl;
  empty_descriptors = refl;
  empty_block = refl;
  public_method = refl;
  public_method_built = refl;
  derived_method = refl;
  derived_method_built = refl;
  private_accessor = refl;
  private_accessor_needs = refl;
  private_accessor_form = refl;
  mixed_halves = refl;
  mixed_built = refl;
  two_decorators = refl;
  two_decorators_code = refl;
  two_decorators_assigned = refl;
  few_marks = ap (λ k. faulted Marks (report 6 k)) (size_from 65531 (lit≤ tt) (lit≤ tt));
  few_marks_told = refl;
  enough_marks = ap (λ k. faulted Marks (report 6 k)) (size_from 65530 (lit≤ tt) (lit≤ tt));
  second_builder = refl;
  second_builder_told = refl;
  no_super_call = refl;
  no_super_call_told = refl;
  unnumbered = refl;
  unnumbered_told = refl;
}

worked : (d f1 step of paid due ab unit returnNew zero returnTwo three four : Place) →
    Worked d f1 step of paid due ab unit returnNew zero returnTwo three four
worked d f1 step of paid due ab unit returnNew zero returnTwo three four = record {
  drawn = refl;
  assignments = refl;
  keys_in_hand = refl;
  made = refl;
  codes = refl;
  descriptors = refl;
  names = refl;
  variables = refl;
  frame = refl;
}

pub returns : goal.returns
returns c = (short, worked)
