pub mod GaugeLooks
