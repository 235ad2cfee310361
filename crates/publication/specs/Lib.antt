pub mod Tests
pub mod References
pub mod RaisedLaws
pub mod UnpinCall
pub mod PinCall
