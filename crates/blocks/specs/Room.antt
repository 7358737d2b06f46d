-- The lengths of the work arrays, for the crates that know no geometry.
pub use Rattle.geometry.specs.Room.{places_most, list_room}
