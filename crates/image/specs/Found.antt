-- What a record is found to be: the units' state of an image, or foreign. Assumes nothing.
use Rattle.device.specs.declared.Units as device

pub data Found : Type 0 where
  Units : device.Units → Found
  Foreign : Found
