pub mod EventsLeft
