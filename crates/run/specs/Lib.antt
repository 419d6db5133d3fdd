pub mod RunViews
