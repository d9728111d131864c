-- A state that passes every test of the state itself: refusals 4, 5, 6, 9 and 14 are not given. An iteration still
-- tests the table's length (11) and the iterations done (12).
use Rattle.std.specs.Prelude.{◌≡◌, false}
use Rattle.counting.specs.Count.{any}
use Rattle.sizes.specs.Sizes.{outside, too_many, stray, sound_zero}
use Rattle.run.specs.declared.Run.{Run}
use Rattle.run.specs.State.{bad_place, too_many_sent, bad_reasons, overdone}

-- none of the tests of the state itself holds
pub record Legal (s : Run) : Type 0 where
  pub pass4 : outside s.n ≡ false
  pub pass5 : too_many s.n s.t ≡ false
  pub pass6 : stray s.n s.faulty ≡ false
  pub pass9 : sound_zero s.n s.faulty s.rows ≡ false
  pub pass14_places : any 13 (bad_place s) ≡ false
  pub pass14_sent : too_many_sent s ≡ false
  pub pass14_reasons : any 13 (bad_reasons s) ≡ false
  pub pass14_done : overdone s ≡ false
