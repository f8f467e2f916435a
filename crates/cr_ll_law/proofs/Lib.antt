mod EventsLeft
