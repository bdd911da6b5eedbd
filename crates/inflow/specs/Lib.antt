pub mod Basin
